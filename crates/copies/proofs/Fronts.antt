-- The sound blocks at the front of some. Assumes nothing.
use Rattle.std.specs.Prelude.{Option, Some, None, Result, Ok, Err}
use mathlib.Core.Path.{◌≡◌, refl, sym, ap, ap₂, ◌∙◌, subst, subst⁻¹}
use mathlib.Core.List.{List, [], ◌∷◌}
use Prim.Native.Nat.{ℕ, suc, ◌+◌, ◌-◌, ◌*◌, ◌≤◌, ◌<◌}
use native.Mathlib.Omega.{arith}
use lib.ListN.{length, take, drop, length-drop}
use lib.Seq.{drop-drop}
use Rattle.answers.specs.declared.Refusal.{Refusal}
use Rattle.format.specs.Blocks.{block_bytes}
use Rattle.format.specs.declared.Form.{Form}
use Rattle.trace.specs.Places.{later_of}
use Rattle.walk.specs.Pieces.{whole_in}
use Rattle.walk.proofs.Pieces.{whole_none, whole_first, whole_many, wholes_fit}
use Rattle.copies.specs.declared.Front.{Front}
use Rattle.copies.specs.Fronts.{fault_by, fault_of, Sound, sound_by, sound_in, front_of}
use Rattle.copies.specs.Theorems.{AllOwn, NextHas, IsFront, FrontIsSound}

module _ (form : Form) (ssrc : ℕ) where
  -- a block, by what it reads as at its place
  pub fault_by_lem : (b : List ℕ) {r : Result ℕ Refusal} → later_of form ssrc b ≡ r → fault_of form ssrc b ≡ fault_by r
  unfolding fault_of
  fault_by_lem b e = ap fault_by e

  -- the first block of some
  pub sound_own : (b : List ℕ) (bs : List (List ℕ)) → fault_of form ssrc b ≡ None
      → sound_in form ssrc (b ∷ bs) ≡ record { many = suc (sound_in form ssrc bs).many; refusal = (sound_in form ssrc bs).refusal }
  unfolding sound_in
  sound_own b bs e = ap (λ (o : Option Refusal). sound_by o (sound_in form ssrc bs)) e

  pub sound_refused : (b : List ℕ) (bs : List (List ℕ)) {refusal : Refusal} → fault_of form ssrc b ≡ Some refusal
      → sound_in form ssrc (b ∷ bs) ≡ record { many = 0; refusal = Some refusal }
  unfolding sound_in
  sound_refused b bs e = ap (λ (o : Option Refusal). sound_by o (sound_in form ssrc bs)) e

-- ---- what the front is

front_one : (form : Form) (ssrc : ℕ) (b : List ℕ) (bs : List (List ℕ)) (o : Option Refusal) → fault_of form ssrc b ≡ o → IsFront form ssrc bs (sound_in form ssrc bs)
    → IsFront form ssrc (b ∷ bs) (sound_by o (sound_in form ssrc bs))
front_one form ssrc b bs None e f = record { inside = omega (arith, f.inside); own = (e, f.own); next = f.next }
front_one form ssrc b bs (Some refusal) e f = record { inside = omega arith; own = tt; next = (b, bs, refl, e) }

pub front_is_sound : FrontIsSound
unfolding sound_in
front_is_sound form ssrc [] = record { inside = omega arith; own = tt; next = refl }
front_is_sound form ssrc (b ∷ bs) = front_one form ssrc b bs (fault_of form ssrc b) refl (front_is_sound form ssrc bs)

-- all blocks, if each is a trace's own
pub all_sound_lem : (form : Form) (ssrc : ℕ) (bs : List (List ℕ)) → AllOwn form ssrc bs → sound_in form ssrc bs ≡ record { many = length bs; refusal = None }
unfolding sound_in
all_sound_lem form ssrc [] own = refl
all_sound_lem form ssrc (b ∷ bs) own =
    sound_own form ssrc b bs own.0 ∙ ap (λ (s : Sound). record { many = suc s.many; refusal = s.refusal }) (all_sound_lem form ssrc bs own.1)

-- ---- the loop over the blocks of a piece

-- after `at` bytes, which are sound blocks
pub record Loop (form : Form) (ssrc : ℕ) (piece : List ℕ) (at : ℕ) : Type 0 where
  pub done : ℕ
  pub at_block : at ≡ block_bytes * done
  pub within : at ≤ length piece
  pub many : (sound_in form ssrc (whole_in piece)).many ≡ done + (sound_in form ssrc (whole_in (drop at piece))).many
  pub refusal : (sound_in form ssrc (whole_in piece)).refusal ≡ (sound_in form ssrc (whole_in (drop at piece))).refusal

pub loop_first : (form : Form) (ssrc : ℕ) (piece : List ℕ) → Loop form ssrc piece 0
loop_first form ssrc piece = record { done = 0; at_block = omega arith; within = omega arith; many = omega arith; refusal = refl }

module _ {form : Form} {ssrc : ℕ} {piece : List ℕ} {at : ℕ} (l : Loop form ssrc piece at) where
  -- the front, by what is left of it
  ended_by_lem : {s : Sound} → sound_in form ssrc (whole_in (drop at piece)) ≡ s → s.many ≡ 0 → record { bytes = at; ended = s.refusal } ≡ front_of form ssrc piece
  unfolding front_of
  ended_by_lem {s} e z =
      let bytes : at ≡ block_bytes * (sound_in form ssrc (whole_in piece)).many = omega (arith, l.at_block, l.many, ap (λ (s : Sound). s.many) e, z) in
      let how : s.refusal ≡ (sound_in form ssrc (whole_in piece)).refusal = sym (l.refusal ∙ ap (λ (s : Sound). s.refusal) e) in
      λ i. record { bytes = bytes i; ended = how i }

  pub loop_last : length piece - at < block_bytes → record { bytes = at; ended = None } ≡ front_of form ssrc piece
  unfolding sound_in
  loop_last h = ended_by_lem (ap (sound_in form ssrc) (whole_none (drop at piece) (omega (arith, length-drop at piece)))) refl

  module _ (h : block_bytes ≤ length piece - at) {end : ℕ} (is : end ≡ at + block_bytes) where
    -- the block as the code has it
    abbrev block : List ℕ
    block = take (end - at) (drop at piece)

    first_left : whole_in (drop at piece) ≡ block ∷ whole_in (drop end piece)
    first_left =
        let e : end - at ≡ block_bytes = omega arith in
        whole_first (drop at piece) (omega (arith, length-drop at piece))
        ∙ ap₂ (λ (first rest : List ℕ). first ∷ whole_in rest) (ap (λ (n : ℕ). take n (drop at piece)) (sym e)) (drop-drop block_bytes at piece ∙ ap (λ (n : ℕ). drop n piece) (sym is))

    pub loop_refused : {refusal : Refusal} → later_of form ssrc block ≡ Err refusal → record { bytes = at; ended = Some refusal } ≡ front_of form ssrc piece
    loop_refused e = ended_by_lem (ap (sound_in form ssrc) first_left ∙ sound_refused form ssrc block (whole_in (drop end piece)) (fault_by_lem form ssrc block e)) refl

    pub loop_taken : {n : ℕ} → later_of form ssrc block ≡ Ok n → Loop form ssrc piece end
    loop_taken e =
        let one = ap (sound_in form ssrc) first_left ∙ sound_own form ssrc block (whole_in (drop end piece)) (fault_by_lem form ssrc block e) in
        record {
          done = suc l.done;
          at_block = omega (arith, l.at_block);
          within = omega (arith, h, l.within);
          many = omega (arith, l.many, ap (λ (s : Sound). s.many) one);
          refusal = l.refusal ∙ ap (λ (s : Sound). s.refusal) one;
        }

-- ---- what the call on a piece says

module _ (form : Form) (ssrc : ℕ) (piece : List ℕ) {f : Front} (is : f ≡ front_of form ssrc piece) where
  pub front_many : f.bytes ≡ block_bytes * (sound_in form ssrc (whole_in piece)).many
  unfolding front_of
  front_many = ap (λ (f : Front). f.bytes) is

  pub front_refusal : (sound_in form ssrc (whole_in piece)).refusal ≡ f.ended
  unfolding front_of
  front_refusal = sym (ap (λ (f : Front). f.ended) is)

  -- no more than the piece has, and a refused block is inside too
  pub front_inside : f.bytes ≤ length piece
  front_inside = omega (arith, front_many, (front_is_sound form ssrc (whole_in piece)).inside, whole_many piece, wholes_fit piece)

  pub front_next : {refusal : Refusal} → f.ended ≡ Some refusal → f.bytes + block_bytes ≤ length piece
  front_next {refusal} e =
      let s = sound_in form ssrc (whole_in piece) in
      let next = subst (λ (o : Option Refusal). NextHas form ssrc o (drop s.many (whole_in piece))) (front_refusal ∙ e) (front_is_sound form ssrc (whole_in piece)).next in
      let some_left : 1 ≤ length (drop s.many (whole_in piece)) = subst⁻¹ (λ (bs : List (List ℕ)). 1 ≤ length bs) next.2 (omega arith) in
      omega (arith, front_many, some_left, length-drop s.many (whole_in piece), whole_many piece, wholes_fit piece)
