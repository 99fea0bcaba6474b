-- Messages one after another.
use Rattle.std.proofs.Common.{ℕ, ◌+◌, ◌≤◌, List, [], ◌∷◌, ◌++◌, length, length-append, map, refl, ap, sym, subst, ◌∙◌, append_assoc, arith}
use Rattle.std.proofs.lemmas.List.{append-nil, map-append}
use Rattle.dk_types.specs.declared.fault.TypeFault.{TypeFault}
use Rattle.source_fault.specs.declared.fault.SourceFault.{SourceFault}
use Rattle.source_fault.specs.declared.fault.SourceFault.TheVariants as source
use Rattle.fault_messages.specs.Explanations.{IsMessage, AreMessages, AreOthers, IsExplanation}

-- that of a fault of names or types, and those of at most `count` others
abbrev pub Few : (name text : List ℕ) → TypeFault → ℕ → List ℕ → Type 0
Few name text first count bytes =
    (others : List TypeFault) × (length others ≤ count) × AreMessages name text (source.Types first ∷ map source.Types others) bytes

one_message : (name text : List ℕ) (fault : SourceFault) (message : List ℕ) → IsMessage name text fault message
    → AreMessages name text (fault ∷ []) message
one_message name text fault message h = (message, [], h, refl, sym (append-nil message))

none_beside : (fault : SourceFault) → AreOthers fault []
none_beside (source.Types _) = omega arith
none_beside source.TooLong = refl
none_beside (source.Lex _) = refl
none_beside (source.Nest _) = refl
none_beside (source.Syntax _) = refl
none_beside (source.Depth _) = refl
none_beside (source.Nodes _) = refl
none_beside (source.InlineDepth _) = refl
none_beside (source.Reads _) = refl
none_beside (source.Bits _) = refl
none_beside (source.Latency _) = refl

-- the message of the first fault
pub first_message : (name text : List ℕ) (first : TypeFault) (message : List ℕ) → IsMessage name text (source.Types first) message
    → Few name text first 0 message
first_message name text first message h = ([], omega arith, one_message name text (source.Types first) message h)

-- the message of a fault, with no others
pub lone : (name text : List ℕ) (fault : SourceFault) (message : List ℕ) → IsMessage name text fault message
    → IsExplanation name text fault message
lone name text fault message h = record { others = []; few = none_beside fault; messages = one_message name text fault message h }

-- one more
pub more_messages : (name text : List ℕ) (faults : List SourceFault) (fault : SourceFault) (bytes message : List ℕ)
    → AreMessages name text faults bytes → IsMessage name text fault message
    → AreMessages name text (faults ++ fault ∷ []) (bytes ++ message)
more_messages name text [] fault bytes message e h =
    (message, [], h, refl, ap (λ b. b ++ message) e ∙ sym (append-nil message))
more_messages name text (f ∷ fs) fault bytes message (first, others, i, rest, e) h =
    (first, others ++ message, i, more_messages name text fs fault others message rest h, ap (λ b. b ++ message) e ∙ append_assoc first others message)

-- one more fault after the first
pub few_more : (name text : List ℕ) (first last : TypeFault) (count : ℕ) (bytes new : List ℕ) → Few name text first count bytes
    → ((faults : List SourceFault) → AreMessages name text faults bytes → AreMessages name text (faults ++ source.Types last ∷ []) new)
    → Few name text first (count + 1) new
few_more name text first last count bytes new (others, few, messages) grows =
    let P : List SourceFault → Type 0 = λ faults. AreMessages name text (source.Types first ∷ faults) new in (
      others ++ last ∷ [],
      omega (arith, length-append others (last ∷ [])),
      subst P (sym (map-append source.Types others (last ∷ []))) (grows (source.Types first ∷ map source.Types others) messages),
    )
