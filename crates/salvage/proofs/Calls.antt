-- The calls over pieces, case by case. Assumes nothing.
use Rattle.std.specs.Prelude.{Option, Some, None, Result, Ok, Err}
use Rattle.answers.specs.declared.Unwritten.{Unwritten}
use mathlib.Core.Path.{◌≡◌, refl, sym, ap, ap₂, ◌∙◌}
use mathlib.Core.List.{List, [], ◌∷◌}
use Prim.Native.Nat.{ℕ, ◌+◌, ◌*◌, ◌/◌, ◌^◌, ◌≤◌, ◌<◌}
use native.Mathlib.Omega.{arith}
use lib.ListN.{length}
use Rattle.answers.specs.Refusals.{number_of}
use Rattle.answers.specs.Writers.{Wrote}
use Rattle.answers.specs.declared.Refusal.{Refusal}
use Rattle.answers.specs.declared.Refusal.TheVariants.{Incomplete}
use Rattle.answers.proofs.Stores.{wrote_all}
use Rattle.format.specs.Blocks.{block_bytes}
use Rattle.table.specs.Lines.{refused_line}
use Rattle.trace.specs.Places.{zeroth_of}
use Rattle.trace.specs.declared.Zeroth.{Zeroth}
use Rattle.walk.specs.Pieces.{whole_in}
use Rattle.walk.specs.Endings.{number_after}
use Rattle.walk.specs.Machines.{ending_by}
use Rattle.copies.specs.Fronts.{Sound, sound_in, front_of}
use Rattle.copies.specs.declared.Front.{Front}
use Rattle.copies.proofs.Fronts.{front_many, front_refusal}
use Rattle.salvage.specs.declared.Progress.{Progress}
use Rattle.salvage.specs.declared.Taken.{Taken}
use Rattle.salvage.specs.Salvaged.{closing}
use Rattle.salvage.specs.Pieces.{begun_by, begun_of, Portion, portion_by, portion_in, portion_of, moved_by, TakenBy, TakesBy, Takes, end_of}

-- ---- block 0

pub begun_by_lem : (b : List ℕ) {r : Result Zeroth Refusal} → zeroth_of b ≡ r → begun_of b ≡ begun_by r
unfolding begun_of
begun_by_lem b e = ap begun_by e

-- ---- a piece

-- no block on
pub moved_none : (p : Progress) → p.block < 2 ^ 64 → moved_by p 0 ≡ p
moved_none p h =
    let same : number_after p.block 0 ≡ p.block = omega arith in
    λ i. record { form = p.form; ssrc = p.ssrc; block = same i; ended = p.ended }

-- so many blocks on, and one more
pub moved_more : (p : Progress) {at next : Progress} (many : ℕ) → at ≡ moved_by p many → next ≡ moved_by at 1 → next ≡ moved_by p (many + 1)
moved_more p many a e =
    let same : number_after (number_after p.block many) 1 ≡ number_after p.block (many + 1) = omega arith in
    e ∙ ap (λ (p : Progress). moved_by p 1) a ∙ (λ i. record { form = p.form; ssrc = p.ssrc; block = same i; ended = p.ended })

module _ (p : Progress) (q : Portion) where
  -- the line has no room
  pub takes_none : {line old err : List ℕ} {w : Result ℕ Unwritten} {why : Unwritten} {r : Taken} → r ≡ record { copied = 0; bytes = 0; answer = w; progress = p } → w ≡ Err why
      → line ≡ q.line → Wrote None line old w err → TakesBy p q old r err
  takes_none {line} {old} {err} {w} {why} {r} e h l t =
      rw (e, h) (record { wrote = rw (← l, ← h) t; taken = refl })

  -- it is written
  pub takes_all : {line old err : List ℕ} {w : Result ℕ Unwritten} {n copied bytes : ℕ} {next : Progress} → w ≡ Ok n → copied ≡ q.copied * block_bytes → bytes ≡ q.taken * block_bytes
      → next ≡ moved_by p q.taken → line ≡ q.line → Wrote None line old w err → TakesBy p q old (record { copied = copied; bytes = bytes; answer = w; progress = next }) err
  takes_all {line} {old} {err} {w} {n} e c b m l t = record {
    wrote = rw (← l) t;
    taken = (λ i. record { copied = c i; bytes = b i; answer = e i; progress = m i }) ∙ sym (ap (TakenBy p q) e);
  }

module _ (p : Progress) (piece : List ℕ) where
  abbrev sound : Sound
  sound = sound_in p.form p.ssrc (whole_in piece)

  portion_by_lem : {e : Option Refusal} → p.ended ≡ e → portion_of p piece ≡ portion_in p sound e
  unfolding portion_of
  portion_by_lem e = ap (portion_in p sound) e

  pub portion_over : {refusal : Refusal} → p.ended ≡ Some refusal → portion_of p piece ≡ record { copied = 0; taken = 0; line = [] }
  portion_over e = portion_by_lem e

  pub portion_going : {many : ℕ} {o : Option Refusal} → p.ended ≡ None → sound.many ≡ many → sound.refusal ≡ o → portion_of p piece ≡ portion_by p.block many o
  portion_going e m o = portion_by_lem e ∙ ap₂ (portion_by p.block) m o

  -- as the call on the piece finds it
  pub portion_front : {f : Front} {e : Option Refusal} → p.ended ≡ None → f ≡ front_of p.form p.ssrc piece → f.ended ≡ e
      → portion_of p piece ≡ portion_by p.block (f.bytes / block_bytes) e
  portion_front {f} e is n =
      let many : sound.many ≡ f.bytes / block_bytes = omega (arith, front_many p.form p.ssrc piece is) in
      portion_going e many (front_refusal p.form p.ssrc piece is ∙ n)

  -- after an end
  pub takes_over : {refusal : Refusal} {old : List ℕ} {r : Taken} → p.block < 2 ^ 64 → p.ended ≡ Some refusal
      → r ≡ record { copied = 0; bytes = 0; answer = Ok 0; progress = p } → Takes p piece old r old
  takes_over {refusal} {old} h e a =
      rw (portion_over e, a)
      (takes_all p (record { copied = 0; taken = 0; line = [] }) refl (omega arith) (omega arith) (sym (moved_none p h)) refl (wrote_all [] old refl (omega arith) refl refl))

  -- to the last whole block
  pub takes_whole : {f : Front} {old : List ℕ} {next : Progress} → p.ended ≡ None → f ≡ front_of p.form p.ssrc piece → f.ended ≡ None
      → next ≡ moved_by p (f.bytes / block_bytes)
      → Takes p piece old (record { copied = f.bytes / block_bytes * block_bytes; bytes = f.bytes / block_bytes * block_bytes; answer = Ok 0; progress = next }) old
  takes_whole {f} {old} e is n m =
      rw (portion_front e is n)
      (takes_all p (portion_by p.block (f.bytes / block_bytes) None) refl refl refl m refl (wrote_all [] old refl (omega arith) refl refl))

-- ---- the end

module _ (p : Progress) (rest : List ℕ) where
  end_by_lem : {e : Option Refusal} → p.ended ≡ e → end_of p rest ≡ (closing (ending_by p.block e rest)).err
  unfolding end_of
  end_by_lem e = ap (λ (e : Option Refusal). (closing (ending_by p.block e rest)).err) e

  pub end_refused : {refusal : Refusal} → p.ended ≡ Some refusal → end_of p rest ≡ refused_line (number_of refusal) p.block
  end_refused e = end_by_lem e

  pub end_whole : p.ended ≡ None → length rest ≡ 0 → end_of p rest ≡ []
  end_whole e h = end_by_lem e ∙ go rest h
    where
      go : (rest : List ℕ) → length rest ≡ 0 → (closing (ending_by p.block None rest)).err ≡ []
      go [] h = refl
      go (c ∷ rest) h = absurd (omega arith)

  pub end_part : p.ended ≡ None → 1 ≤ length rest → end_of p rest ≡ refused_line (number_of Incomplete) p.block
  end_part e h = end_by_lem e ∙ go rest h
    where
      go : (rest : List ℕ) → 1 ≤ length rest → (closing (ending_by p.block None rest)).err ≡ refused_line (number_of Incomplete) p.block
      go [] h = absurd (omega arith)
      go (c ∷ rest) h = refl

  pub ends_none : (old : List ℕ) → end_of p rest ≡ [] → Wrote None (end_of p rest) old (Ok 0) old
  ends_none old e = rw e (wrote_all [] old refl (omega arith) refl refl)
