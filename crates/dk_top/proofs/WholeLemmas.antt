-- What a call does that read its files whole.
use Rattle.std.proofs.Common.{◌≡◌, ◌≢◌, ℕ, ◌<◌, List, length, Option, None, Some, Result, Ok, Err, IfOk, IfErr, IfSome, OnOk, sym, ap, ◌∙◌, subst, arith}
use Rattle.std.specs.Prelude.{IsErrAnd, Vec}
use Rattle.std.specs.declared.alloc.Global.{Global}
use Rattle.dk_base.specs.declared.TheConstants.{MAX_SOURCE_BYTES}
use Rattle.dk_desk.specs.declared.Stage.TheVariants.{Unasked}
use Rattle.dk_desk.specs.declared.InSlot.TheVariants.{Program as ProgramSlot, Image as ImageSlot}
use Rattle.dk_desk.specs.Outside.{Outside, Input}
use Rattle.dk_desk.specs.Calls.{HasCauseIn, IsIfTold, OpensOnly}
use Rattle.source_fault.specs.declared.fault.SourceFault.TheVariants as source
use Rattle.dk_endings.specs.declared.ending.Ending.{Ending}
use Rattle.dk_endings.specs.declared.ending.Ending.TheVariants as ending
use Rattle.dk_types.specs.Typed.{Typing}
use Rattle.pointwise_ir.specs.Programs.{Program}
use Rattle.dk_compile.specs.Fronts.{IsForm}
use Rattle.dk_top.specs.State.{LeavesRest, LeavesText, LeavesBoth}
use Rattle.dk_top.specs.Reading.{OfFile, OfFiles, ReadsInputs, IsNamed, Stops, IsJudgement, TellsRead, IsUnread, failed, memory, long, IsUnreadText, IsImageEnding, ReadsWhole, ReadsText, ReadsBoth}
use Rattle.dk_top.specs.Meaning.{Files, bytes_of}
use Rattle.dk_top.proofs.LongLemmas.{judgement_stops, judgement_read, judgement_text, judgement_images}
use Rattle.dk_top.proofs.RunLemmas.{same_count, ok_apart}

-- the result of a `?` is the error
pub lifted : {A : Type 0} (P : Result A Ending → Type 0) (r : Result A Ending) (e : Ending) → IsErrAnd r (λ y. y ≡ e) → P (Err e) → P r
lifted P (Ok a) e is h = absurd is
lifted P (Err y) e is h = subst (λ x. P (Err x)) (sym is) h

-- facts of the files, as far as they are specified
pub told_all : (told : Option Files) (P : Files → Type 0) → ((f : Files) → P f) → IfSome told P
told_all None P h = tt
told_all (Some f) P h = h f

pub told_map : (told : Option Files) (P Q : Files → Type 0) → ((f : Files) → P f → Q f) → IfSome told P → IfSome told Q
told_map None P Q by h = tt
told_map (Some f) P Q by h = by f h

-- the same of the files that were not changed
told_back : (told between : Option Files) (P : Files → Type 0) → between ≡ told → IfSome between P → IfSome told P
told_back told between P same h = subst (λ (o : Option Files). IfSome o P) same h

-- a read that answers counts no failure
pub read_count : {A : Type 0} (a : A) (old new : Outside) → TellsRead (Ok a) old new → new.input_failures ≡ old.input_failures
read_count a old new h = same_count _ old.input_failures new.input_failures (λ is. ok_apart a _ is) h

-- what counts no failure and ends otherwise
pub quiet : {A : Type 0} (r : Result A Ending) (old new : Outside) → new.input_failures ≡ old.input_failures → (r ≡ Err ending.ReadFault → ⊥) → TellsRead r old new
quiet r old new same not = record {
  later = omega (arith, same);
  only = λ is. absurd (not is);
  always = λ more. absurd (let f : ⊥ = omega (arith, same, more) in f);
}

err_same : {A : Type 0} (e f : Ending) → ◌≡◌ {A = Result A Ending} (Err e) (Err f) → e ≡ f
err_same e f is = cc

-- the error of a read that is handed on
pub handed : {A B : Type 0} (e : Ending) (old new : Outside) → TellsRead {A = A} (Err e) old new → TellsRead {A = B} (Err e) old new
handed e old new h = record {
  later = h.later;
  only = λ is. h.only (ap Err (err_same e ending.ReadFault is));
  always = λ more. ap Err (err_same e ending.ReadFault (h.always more));
}

-- a result of bytes that were read whole reports no failed read
pub judged_apart : {A : Type 0} (r : Result A Ending) → IfErr r IsJudgement → r ≡ Err ending.ReadFault → ⊥
judged_apart (Ok a) h is = ok_apart a _ is
judged_apart (Err e) h is = judgement_read e h (err_same e ending.ReadFault is)

-- why a text was not read
unread_text : (file : List ℕ) (old : Outside) (slot : Input) (e : Ending) → IsUnread MAX_SOURCE_BYTES (ending.Source source.TooLong) file old slot e → OfFile old file (λ text. IsUnreadText text e)
unread_text file old slot e (failed is) = told_all old.files (λ f. IsUnreadText (bytes_of f file) e) (λ f. subst (IsUnreadText (bytes_of f file)) (sym is) tt)
unread_text file old slot e (memory is) = told_all old.files (λ f. IsUnreadText (bytes_of f file) e) (λ f. subst (IsUnreadText (bytes_of f file)) (sym is) tt)
unread_text file old slot e (long is more rest) = told_map old.files (λ f. MAX_SOURCE_BYTES < length (bytes_of f file)) (λ f. IsUnreadText (bytes_of f file) e) (λ f h. subst (IsUnreadText (bytes_of f file)) (sym is) h) more

unread_left : (file : List ℕ) (old : Outside) (slot : Input) (e : Ending) → IsUnread MAX_SOURCE_BYTES (ending.Source source.TooLong) file old slot e → OfFile old file (λ text. LeavesText e text slot)
unread_left file old slot e (failed is) = told_all old.files (λ f. LeavesText e (bytes_of f file) slot) (λ f. subst (λ x. LeavesText x (bytes_of f file) slot) (sym is) tt)
unread_left file old slot e (memory is) = told_all old.files (λ f. LeavesText e (bytes_of f file) slot) (λ f. subst (λ x. LeavesText x (bytes_of f file) slot) (sym is) tt)
unread_left file old slot e (long is more rest) = told_map old.files (λ f. LeavesRest MAX_SOURCE_BYTES (bytes_of f file) slot) (λ f. LeavesText e (bytes_of f file) slot) (λ f h. subst (λ x. LeavesText x (bytes_of f file) slot) (sym is) h) rest

pub unread_stops : (limit : ℕ) (too_long : Ending) (file : List ℕ) (old : Outside) (slot : Input) (e : Ending) → Stops too_long → IsUnread limit too_long file old slot e → Stops e
unread_stops limit too_long file old slot e stops (failed is) = subst Stops (sym is) tt
unread_stops limit too_long file old slot e stops (memory is) = subst Stops (sym is) tt
unread_stops limit too_long file old slot e stops (long is more rest) = subst Stops (sym is) stops

module _ {A : Type 0} (file : List ℕ) (makes : List ℕ → A → Type 0) (accepts : List ℕ → Type 0) (ends : List ℕ → Ending → Type 0) (old new : Outside) where
  -- a program that was not read
  pub text_unread : ((text : List ℕ) (e : Ending) → IsUnreadText text e → ends text e) → (e : Ending) → ReadsWhole ProgramSlot file MAX_SOURCE_BYTES (ending.Source source.TooLong) (Err e) old new → ReadsText file makes accepts ends (Err e) old new
  text_unread law e r = record {
    made = tt;
    some = tt;
    good = tt;
    fault = told_map old.files (λ f. IsUnreadText (bytes_of f file) e) (λ f. ends (bytes_of f file) e) (λ f h. law (bytes_of f file) e h) (unread_text file old new.program e r.unread);
    stops = unread_stops MAX_SOURCE_BYTES (ending.Source source.TooLong) file old new.program e tt r.unread;
    left = unread_left file old new.program e r.unread;
    name = r.name;
    only = r.only;
    cause = handed e old new r.cause;
  }

  -- what is made of a program that was read
  pub text_made : (limit : ℕ) (too_long : Ending) (v : Vec ℕ Global) (text : List ℕ) → text ≡ v.items → ReadsWhole ProgramSlot file limit too_long (Ok v) old new → (r : Result A Ending) → IfOk r (makes text) → OnOk r (accepts text) → IfErr r (ends text) → IfErr r IsJudgement → ReadsText file makes accepts ends r old new
  text_made limit too_long v text is whole (Ok a) made good ended judged = record {
    made = told_map old.files (λ f. v.items ≡ bytes_of f file) (λ f. makes (bytes_of f file) a) (λ f same. subst (λ t. makes t a) (is ∙ same) made) whole.whole;
    some = (text, made);
    good = told_map old.files (λ f. v.items ≡ bytes_of f file) (λ f. accepts (bytes_of f file)) (λ f same. subst accepts (is ∙ same) good) whole.whole;
    fault = tt;
    stops = tt;
    left = tt;
    name = whole.name;
    only = whole.only;
    cause = quiet (Ok a) old new (read_count v old new whole.cause) (λ same. ok_apart a _ same);
  }
  text_made limit too_long v text is whole (Err e) made good ended judged = record {
    made = tt;
    some = tt;
    good = tt;
    fault = told_map old.files (λ f. v.items ≡ bytes_of f file) (λ f. ends (bytes_of f file) e) (λ f same. subst (λ t. ends t e) (is ∙ same) ended) whole.whole;
    stops = judgement_stops e judged;
    left = told_all old.files (λ f. LeavesText e (bytes_of f file) new.program) (λ f. judgement_text e judged (bytes_of f file) new.program);
    name = whole.name;
    only = whole.only;
    cause = quiet (Err e) old new (read_count v old new whole.cause) (judged_apart {A = A} (Err e) judged);
  }

-- images of any length that were not read
pub unlimited : (limit : ℕ) (name : List ℕ) (old : Outside) (slot : Input) (e : Ending) (ir : Program) → IsUnread limit ending.Memory name old slot e → IfSome old.files (λ f. (p : Typing) → IsForm p ir → IsImageEnding None p (bytes_of f name) e)
unlimited limit name old slot e ir (failed is) = told_all old.files (λ f. (p : Typing) → IsForm p ir → IsImageEnding None p (bytes_of f name) e) (λ f p form. subst (IsImageEnding None p (bytes_of f name)) (sym is) tt)
unlimited limit name old slot e ir (memory is) = told_all old.files (λ f. (p : Typing) → IsForm p ir → IsImageEnding None p (bytes_of f name) e) (λ f p form. subst (IsImageEnding None p (bytes_of f name)) (sym is) tt)
unlimited limit name old slot e ir (long is more rest) = told_all old.files (λ f. (p : Typing) → IsForm p ir → IsImageEnding None p (bytes_of f name) e) (λ f p form. subst (IsImageEnding None p (bytes_of f name)) (sym is) tt)

-- what a read of the program changes of both inputs
inputs_first : (old new : Outside) → OpensOnly ProgramSlot old new → ReadsInputs old new
inputs_first old new only =
    only ∙ ap (λ (i : Input). record old { program = new.program; image = i; input_failures = new.input_failures }) (sym (ap (λ (o : Outside). o.image) only))

inputs_both : (old mid new : Outside) → OpensOnly ProgramSlot old mid → OpensOnly ImageSlot mid new → ReadsInputs old new
inputs_both old mid new one two =
    two ∙ (ap (λ (o : Outside). record o { image = new.image; input_failures = new.input_failures }) one ∙ ap (λ (i : Input). record old { program = i; image = new.image; input_failures = new.input_failures }) (sym (ap (λ (o : Outside). o.program) two)))

-- How a command ends whose first file is not read whole, if it is longer than this limit.
pub record EndsFirst (limit : ℕ) (too_long : Ending) (ends : List ℕ → List ℕ → Ending → Type 0) : Type 0 where
  pub failed_read : (text file : List ℕ) → ends text file ending.ReadFault
  pub no_memory : (text file : List ℕ) → ends text file ending.Memory
  pub over : (text file : List ℕ) → limit < length text → ends text file too_long
  pub stops : Stops too_long
  pub left : (text file : List ℕ) (p i : Input) → LeavesRest limit text p → LeavesBoth too_long text file p i

-- The same of the second file, for this text.
pub record EndsSecond (limit : ℕ) (too_long : Ending) (text : List ℕ) (ends : List ℕ → List ℕ → Ending → Type 0) : Type 0 where
  pub failed_read : (file : List ℕ) → ends text file ending.ReadFault
  pub no_memory : (file : List ℕ) → ends text file ending.Memory
  pub over : (file : List ℕ) → limit < length file → ends text file too_long
  pub stops : Stops too_long
  pub left : (t file : List ℕ) (p i : Input) → LeavesRest limit file i → LeavesBoth too_long t file p i

module _ (limit : ℕ) (too_long : Ending) (first second : List ℕ) (ends : List ℕ → List ℕ → Ending → Type 0) (old : Outside) (p i : Input) (e : Ending) where
  first_fault : EndsFirst limit too_long ends → IsUnread limit too_long first old p e → OfFiles old first second (λ t file. ends t file e)
  first_fault law (failed is) = told_all old.files (λ f. ends (bytes_of f first) (bytes_of f second) e) (λ f. subst (ends (bytes_of f first) (bytes_of f second)) (sym is) (law.failed_read (bytes_of f first) (bytes_of f second)))
  first_fault law (memory is) = told_all old.files (λ f. ends (bytes_of f first) (bytes_of f second) e) (λ f. subst (ends (bytes_of f first) (bytes_of f second)) (sym is) (law.no_memory (bytes_of f first) (bytes_of f second)))
  first_fault law (long is more rest) =
      told_map old.files (λ f. limit < length (bytes_of f first)) (λ f. ends (bytes_of f first) (bytes_of f second) e) (λ f h. subst (ends (bytes_of f first) (bytes_of f second)) (sym is) (law.over (bytes_of f first) (bytes_of f second) h)) more

  first_left : EndsFirst limit too_long ends → IsUnread limit too_long first old p e → OfFiles old first second (λ t file. LeavesBoth e t file p i)
  first_left law (failed is) = told_all old.files (λ f. LeavesBoth e (bytes_of f first) (bytes_of f second) p i) (λ f. subst (λ x. LeavesBoth x (bytes_of f first) (bytes_of f second) p i) (sym is) (tt, tt))
  first_left law (memory is) = told_all old.files (λ f. LeavesBoth e (bytes_of f first) (bytes_of f second) p i) (λ f. subst (λ x. LeavesBoth x (bytes_of f first) (bytes_of f second) p i) (sym is) (tt, tt))
  first_left law (long is more rest) =
      told_map old.files (λ f. LeavesRest limit (bytes_of f first) p) (λ f. LeavesBoth e (bytes_of f first) (bytes_of f second) p i) (λ f h. subst (λ x. LeavesBoth x (bytes_of f first) (bytes_of f second) p i) (sym is) (law.left (bytes_of f first) (bytes_of f second) p i h)) rest

  second_fault : (text : List ℕ) → EndsSecond limit too_long text ends → IfSome old.files (λ f. text ≡ bytes_of f first) → IsUnread limit too_long second old i e → OfFiles old first second (λ t file. ends t file e)
  second_fault text law same (failed is) = told_map old.files (λ f. text ≡ bytes_of f first) (λ f. ends (bytes_of f first) (bytes_of f second) e) (λ f h. subst (λ t. ends t (bytes_of f second) e) h (subst (ends text (bytes_of f second)) (sym is) (law.failed_read (bytes_of f second)))) same
  second_fault text law same (memory is) = told_map old.files (λ f. text ≡ bytes_of f first) (λ f. ends (bytes_of f first) (bytes_of f second) e) (λ f h. subst (λ t. ends t (bytes_of f second) e) h (subst (ends text (bytes_of f second)) (sym is) (law.no_memory (bytes_of f second)))) same
  second_fault text law same (long is more rest) = by old.files same more
    where
      by : (told : Option Files) → IfSome told (λ f. text ≡ bytes_of f first) → IfSome told (λ f. limit < length (bytes_of f second)) → IfSome told (λ f. ends (bytes_of f first) (bytes_of f second) e)
      by None h m = tt
      by (Some f) h m = subst (λ t. ends t (bytes_of f second) e) h (subst (ends text (bytes_of f second)) (sym is) (law.over (bytes_of f second) m))

  second_left : (text : List ℕ) → EndsSecond limit too_long text ends → IsUnread limit too_long second old i e → OfFiles old first second (λ t file. LeavesBoth e t file p i)
  second_left text law (failed is) = told_all old.files (λ f. LeavesBoth e (bytes_of f first) (bytes_of f second) p i) (λ f. subst (λ x. LeavesBoth x (bytes_of f first) (bytes_of f second) p i) (sym is) (tt, tt))
  second_left text law (memory is) = told_all old.files (λ f. LeavesBoth e (bytes_of f first) (bytes_of f second) p i) (λ f. subst (λ x. LeavesBoth x (bytes_of f first) (bytes_of f second) p i) (sym is) (tt, tt))
  second_left text law (long is more rest) =
      told_map old.files (λ f. LeavesRest limit (bytes_of f second) i) (λ f. LeavesBoth e (bytes_of f first) (bytes_of f second) p i) (λ f h. subst (λ x. LeavesBoth x (bytes_of f first) (bytes_of f second) p i) (sym is) (law.left (bytes_of f first) (bytes_of f second) p i h)) rest

-- what holds of the bytes of both files
told_both : (told between : Option Files) (first second a b : List ℕ) (P : List ℕ → List ℕ → Type 0) → between ≡ told → IfSome told (λ f. a ≡ bytes_of f first) → IfSome between (λ f. b ≡ bytes_of f second) → P a b → IfSome told (λ f. P (bytes_of f first) (bytes_of f second))
told_both None between first second a b P same one two h = tt
told_both (Some f) between first second a b P same one two h =
    let There : Option Files → Type 0 = λ o. IfSome o (λ g. b ≡ bytes_of g second) in
    let here : b ≡ bytes_of f second = subst There same two in
    subst (λ t. P t (bytes_of f second)) one (subst (P a) here h)

-- the bytes of a slice are those of the file
sliced : (told : Option Files) (file a b : List ℕ) → a ≡ b → IfSome told (λ f. b ≡ bytes_of f file) → IfSome told (λ f. a ≡ bytes_of f file)
sliced told file a b is h = told_map told (λ f. b ≡ bytes_of f file) (λ f. a ≡ bytes_of f file) (λ f same. is ∙ same) h

module _ {A : Type 0} (first second : List ℕ) (accepts : List ℕ → Type 0) (makes : List ℕ → List ℕ → A → Type 0) (knows : A → Type 0) (ends : List ℕ → List ℕ → Ending → Type 0) (limit : ℕ) (too_long : Ending) (old mid : Outside) where
  -- the first file was not read
  pub both_unread : EndsFirst limit too_long ends → old.image.stage ≡ Unasked → (e : Ending) → ReadsWhole ProgramSlot first limit too_long (Err e) old mid → ReadsBoth first second accepts makes knows ends (Err e) old mid
  both_unread law fresh e r =
      let same = ap (λ (o : Outside). o.image.stage) r.only in
      record {
        order = told_all old.files (λ f. mid.image.stage ≢ Unasked → accepts (bytes_of f first)) (λ f asked. absurd (asked (same ∙ fresh)));
        made = tt;
        known = tt;
        fault = first_fault limit too_long first second ends old mid.program mid.image e law r.unread;
        stops = unread_stops limit too_long first old mid.program e law.stops r.unread;
        left = first_left limit too_long first second ends old mid.program mid.image e law r.unread;
        program_name = λ asked. r.name;
        image_name = λ asked. absurd (asked (same ∙ fresh));
        only = inputs_first old mid r.only;
        cause = handed e old mid r.cause;
      }

  module _ (v : Vec ℕ Global) (text : List ℕ) (is : text ≡ v.items) (whole : ReadsWhole ProgramSlot first limit too_long (Ok v) old mid) where
    here : IfSome old.files (λ f. text ≡ bytes_of f first)
    here = sliced old.files first text v.items is whole.whole

    -- the first file is refused
    pub both_refused : old.image.stage ≡ Unasked → (e : Ending) → ((file : List ℕ) → ends text file e) → IsJudgement e → ReadsBoth first second accepts makes knows ends (Err e) old mid
    both_refused fresh e ended judged =
        let same = ap (λ (o : Outside). o.image.stage) whole.only in
        record {
          order = told_all old.files (λ f. mid.image.stage ≢ Unasked → accepts (bytes_of f first)) (λ f asked. absurd (asked (same ∙ fresh)));
          made = tt;
          known = tt;
          fault = told_map old.files (λ f. text ≡ bytes_of f first) (λ f. ends (bytes_of f first) (bytes_of f second) e) (λ f h. subst (λ t. ends t (bytes_of f second) e) h (ended (bytes_of f second))) here;
          stops = judgement_stops e judged;
          left = told_all old.files (λ f. LeavesBoth e (bytes_of f first) (bytes_of f second) mid.program mid.image) (λ f. (judgement_text e judged (bytes_of f first) mid.program, judgement_images e judged (bytes_of f second) mid.image));
          program_name = λ asked. whole.name;
          image_name = λ asked. absurd (asked (same ∙ fresh));
          only = inputs_first old mid whole.only;
          cause = quiet (Err e) old mid (read_count v old mid whole.cause) (judged_apart {A = A} (Err e) judged);
        }

    module _ (accepted : accepts text) (most : ℕ) (too_big : Ending) (new : Outside) where
      ordered : OfFile old first (λ t. new.image.stage ≢ Unasked → accepts t)
      ordered = told_map old.files (λ f. text ≡ bytes_of f first) (λ f. new.image.stage ≢ Unasked → accepts (bytes_of f first)) (λ f h asked. subst accepts h accepted) here

      named : OpensOnly ImageSlot mid new → IsNamed new.program first
      named only = λ asked. subst (λ (i : Input). IsIfTold i.name (Some first)) (sym (ap (λ (o : Outside). o.program) only)) whole.name

      -- the second file was not read
      pub second_unread : EndsSecond most too_big text ends → (e : Ending) → ReadsWhole ImageSlot second most too_big (Err e) mid new → ReadsBoth first second accepts makes knows ends (Err e) old new
      second_unread law e r =
          let files : mid.files ≡ old.files = ap (λ (o : Outside). o.files) whole.only in
          record {
            order = ordered;
            made = tt;
            known = tt;
            fault = told_back old.files mid.files (λ f. ends (bytes_of f first) (bytes_of f second) e) files (second_fault most too_big first second ends mid new.program new.image e text law (told_back mid.files old.files (λ f. text ≡ bytes_of f first) (sym files) here) r.unread);
            stops = unread_stops most too_big second mid new.image e law.stops r.unread;
            left = told_back old.files mid.files (λ f. LeavesBoth e (bytes_of f first) (bytes_of f second) new.program new.image) files (second_left most too_big first second ends mid new.program new.image e text law r.unread);
            program_name = named r.only;
            image_name = λ asked. r.name;
            only = inputs_both old mid new whole.only r.only;
            cause = subst (λ n. HasCauseIn (◌≡◌ {A = Result A Ending} (Err e) (Err ending.ReadFault)) n new.input_failures) (read_count v old mid whole.cause) (handed e mid new r.cause);
          }

      -- both were read
      pub both_judged : (w : Vec ℕ Global) (file : List ℕ) → file ≡ w.items → ReadsWhole ImageSlot second most too_big (Ok w) mid new → (r : Result A Ending) → IfOk r (makes text file) → IfOk r knows → IfErr r (ends text file) → IfErr r IsJudgement → ReadsBoth first second accepts makes knows ends r old new
      both_judged w file same read (Ok a) made known ended judged =
          let files : mid.files ≡ old.files = ap (λ (o : Outside). o.files) whole.only in
          record {
            order = ordered;
            made = told_both old.files mid.files first second text file (λ t b. makes t b a) files here (sliced mid.files second file w.items same read.whole) made;
            known = known;
            fault = tt;
            stops = tt;
            left = tt;
            program_name = named read.only;
            image_name = λ asked. read.name;
            only = inputs_both old mid new whole.only read.only;
            cause = quiet (Ok a) old new (read_count w mid new read.cause ∙ read_count v old mid whole.cause) (λ same. ok_apart a _ same);
          }
      both_judged w file same read (Err e) made known ended judged =
          let files : mid.files ≡ old.files = ap (λ (o : Outside). o.files) whole.only in
          record {
            order = ordered;
            made = tt;
            known = tt;
            fault = told_both old.files mid.files first second text file (λ t b. ends t b e) files here (sliced mid.files second file w.items same read.whole) ended;
            stops = judgement_stops e judged;
            left = told_all old.files (λ f. LeavesBoth e (bytes_of f first) (bytes_of f second) new.program new.image) (λ f. (judgement_text e judged (bytes_of f first) new.program, judgement_images e judged (bytes_of f second) new.image));
            program_name = named read.only;
            image_name = λ asked. read.name;
            only = inputs_both old mid new whole.only read.only;
            cause = quiet (Err e) old new (read_count w mid new read.cause ∙ read_count v old mid whole.cause) (judged_apart {A = A} (Err e) judged);
          }
