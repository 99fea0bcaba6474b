use Rattle.dk_compile.proofs.Printed.{text_of}
use Rattle.dk_compile.proofs.compiling.printed.Goals as goal

pub returns-clause-text : goal.returns-clause-text
returns-clause-text c =
    text_of c.in_ok-module.field-0.module c.in_ok-text.text.items _ c.in_ok-module.ensures.named c.in_ok-text.ensures.text c.in_ok-module.ensures.bits c.law.ensures.within.few_bits c.in_ok-text.ensures.stands c.in_ok-text.ensures.only
