use Rattle.net_build.proofs.Indexed.{unread, unput, read_more, put_more, reads_last, puts_last}
use Rattle.net_build.proofs.laws.indices_last_law.Goals as goal

pub returns-clause-unread : goal.returns-clause-unread
returns-clause-unread c b x draft past = unread b x draft past

pub returns-clause-unput : goal.returns-clause-unput
returns-clause-unput c b x free = unput b x free

pub returns-clause-read : goal.returns-clause-read
returns-clause-read c b x i = read_more b x i

pub returns-clause-put : goal.returns-clause-put
returns-clause-put c b x i a = put_more b x i a

pub returns-clause-reads : goal.returns-clause-reads
returns-clause-reads c new old arrays x f adds apart = reads_last new old arrays x f adds apart

pub returns-clause-puts : goal.returns-clause-puts
returns-clause-puts c new old x f differ has = puts_last new old x f differ has
