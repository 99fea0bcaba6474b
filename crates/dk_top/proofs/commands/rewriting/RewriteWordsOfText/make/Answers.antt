use Rattle.dk_top.proofs.LongLemmas.{short_rewrite}
use Rattle.dk_top.proofs.commands.rewriting.RewriteWordsOfText.make.Goals as goal

pub returns-clause-judged : goal.returns-clause-judged
returns-clause-judged c = short_rewrite c.rewrite_text.result c.args.self.now.how c.args.text.now c.requires.within c.rewrite_text.ensures.judged c.rewrite_text.ensures.fault
