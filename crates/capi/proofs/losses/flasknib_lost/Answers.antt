use Rattle.std.specs.Prelude.{Option, Ok, Err}
use Rattle.answers.specs.declared.Unwritten.{Unwritten}
use borrow.Author.Rules.{rules}
use mathlib.Core.Path.{refl, sym, ap, ◌∙◌}
use mathlib.Core.List.{List}
use Prim.Native.Nat.{ℕ}
use lib.IntN.{ℤ}
use lib.Seq.{sets}
use Rattle.answers.specs.declared.Refusal.{Refusal}
use Rattle.answers.proofs.Stores.{wrote_refused, wrote_short, wrote_all}
use Rattle.numbers.proofs.Signed.{seen_is}
use Rattle.source.specs.declared.Source.{Source}
use Rattle.source.specs.Record.{lost_answer}
use Rattle.lent.specs.LostWords.{lost_words}
use Rattle.capi.specs.Codes.{refusal_code}
use Rattle.capi.specs.OneSource.{lost_fault, lost_found}
use Rattle.capi.proofs.Answers.{gives}
use Rattle.capi.proofs.Records.{held_wrote, other_wrote}
use Rattle.capi.proofs.losses.flasknib_lost.Goals as goal

-- the refusal and the word of a record
abbrev fault : Source → Option Refusal
fault s = lost_fault (lost_answer s)

abbrev word : Source → List ℕ
word s = lost_found (lost_answer s)

pub returns-in_default : goal.returns-in_default
returns-in_default c =
    let a = c.args in
    gives refusal_code (other_wrote a.words.now fault word a.found.now (sym c.load.ensures ∙ c.in_default.is)) refl

pub returns-then-found-lt-WORDS : goal.returns-then-found-lt-WORDS
returns-then-found-lt-WORDS c =
    let a = c.args in
    let e = sym c.load.ensures ∙ c.in-Some.is in
    let told = sym c.lost.ensures.value ∙ c.in-Ok.is in
    gives {answer = Err (Unwritten.Room 1)} refusal_code
    (held_wrote a.words.now fault word a.found.now e
    (rw told (wrote_short (lost_words c.in-Ok.lost) a.found.now refl c.if-found-lt-WORDS.true refl))) refl

pub returns-else-found-lt-WORDS : goal.returns-else-found-lt-WORDS
returns-else-found-lt-WORDS c =
    let a = c.args in
    let e = sym c.load.ensures ∙ c.in-Some.is in
    let told = sym c.lost.ensures.value ∙ c.in-Ok.is in
    let stored = c.store.ensures ∙ ap (λ (lost : ℤ). sets a.found.now 0 (lost_words lost)) (seen_is c.in-Ok.lost (search rules)) in
    gives {answer = Ok 1} refusal_code
    (held_wrote a.words.now fault word a.found.now e
    (rw told (wrote_all (lost_words c.in-Ok.lost) a.found.now refl c.if-found-lt-WORDS.false refl stored))) refl

pub returns-in-Err : goal.returns-in-Err
returns-in-Err c =
    let a = c.args in
    let e = sym c.load.ensures ∙ c.in-Some.is in
    let told = sym c.lost.ensures.value ∙ c.in-Err.is in
    gives refusal_code (held_wrote a.words.now fault word a.found.now e (wrote_refused _ a.found.now (ap lost_fault told))) c.number.ensures
