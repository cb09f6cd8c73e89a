-- What a block is at its place in a trace, and what that says of the block. Assumes nothing.
use Rattle.std.specs.Prelude.{Result, Ok, Err}
use Rattle.answers.specs.declared.Refusal.{Refusal}
use denote.Enum.Declared.{tag_of}
use Rattle.std.proofs.Common.{◌≡◌, ℕ, Bool, true, false, cond, ◌&&◌, eqb, List, length, sym, refl, ap, ◌∙◌, ap₂, arith, eq-eqb, eqb-true}
use Rattle.answers.specs.declared.Refusal.TheVariants.{Incomplete, Contents}
use Rattle.answers.proofs.Conditions.{and_left, and_right}
use Rattle.format.specs.Forms.{shape_of, same_form}
use Rattle.format.specs.declared.Form.{Form}
use Rattle.format.proofs.Same.{same_form_lem}
use Rattle.trace.specs.Reading.{block_of, fault_of}
use Rattle.trace.specs.Places.{zeroth_by, zeroth_of, later_by, later_of}
use Rattle.trace.specs.declared.Block.{Block}
use Rattle.trace.specs.declared.Block.TheVariants.{Label, Arrivals}
use Rattle.trace.specs.declared.Zeroth.{Zeroth}
use Rattle.trace.specs.contracts.Block.{the_type}
use Rattle.trace.proofs.Decisions.{not_whole}

-- ---- block 0

-- another kind than a label's
pub zeroth_other : (x : Block) → tag_of the_type x ≡ 1 → zeroth_by (Ok x) ≡ Err (fault_of (Ok x))
zeroth_other (Label form n ssrc) h = absurd (omega arith)
zeroth_other (Arrivals form n ssrc) h = refl

module _ (b : List ℕ) where
  -- by what it reads as
  pub zeroth_by_lem : {r : Result Block Refusal} → block_of b ≡ r → zeroth_of b ≡ zeroth_by r
  unfolding zeroth_of
  zeroth_by_lem e = ap zeroth_by e

  -- a label at its place is a label
  pub zeroth_label : {form : Form} {n ssrc : ℕ} → zeroth_of b ≡ Ok (record { form = form; length = n; ssrc = ssrc }) → block_of b ≡ Ok (Label form n ssrc)
  unfolding zeroth_of
  zeroth_label {form} {n} {ssrc} e = go (block_of b) refl e
    where
      label_in : Result Zeroth Refusal → Result Block Refusal
      label_in (Ok label) = Ok (Label label.form label.length label.ssrc)
      label_in (Err refusal) = Err refusal

      go : (r : Result Block Refusal) → block_of b ≡ r → zeroth_by r ≡ Ok (record { form = form; length = n; ssrc = ssrc }) → block_of b ≡ Ok (Label form n ssrc)
      go (Ok (Label its k number)) q e = q ∙ ap label_in e
      go (Ok (Arrivals its k number)) q e = let z : ◌≡◌ {A = ℕ} 0 1 = cc in absurd (omega arith)
      go (Err refusal) q e = let z : ◌≡◌ {A = ℕ} 0 1 = cc in absurd (omega arith)

  -- what block 0 can be refused with
  pub zeroth_short : (length b ≡ 512 → ⊥) → zeroth_of b ≡ Err Incomplete
  zeroth_short h = zeroth_by_lem (sym (not_whole b h))

-- ---- a later block, by the label's form and SSRC

-- another kind than that of arrivals
pub later_other : (form : Form) (ssrc : ℕ) (x : Block) → tag_of the_type x ≡ 0 → later_by form ssrc (Ok x) ≡ Err (fault_of (Ok x))
later_other form ssrc (Label its n number) h = refl
later_other form ssrc (Arrivals its n number) h = absurd (omega arith)

-- a form is its own
pub own_form : (form : Form) → same_form form form ≡ true
own_form form = eq-eqb (shape_of form).label (shape_of form).label refl

module _ (form : Form) (ssrc : ℕ) (b : List ℕ) where
  -- by what it reads as
  pub later_by_lem : {r : Result Block Refusal} → block_of b ≡ r → later_of form ssrc b ≡ later_by form ssrc r
  unfolding later_of
  later_by_lem e = ap (later_by form ssrc) e

  module _ {its : Form} {n number : ℕ} (e : block_of b ≡ Ok (Arrivals its n number)) where
    pub later_foreign : (same_form its form && eqb number ssrc) ≡ false → later_of form ssrc b ≡ Err Contents
    later_foreign h = later_by_lem e ∙ rw h

    pub later_own : (same_form its form && eqb number ssrc) ≡ true → later_of form ssrc b ≡ Ok n
    later_own h = later_by_lem e ∙ rw h

  -- the trace's own arrivals are taken
  pub own_later : {n : ℕ} → block_of b ≡ Ok (Arrivals form n ssrc) → later_of form ssrc b ≡ Ok n
  own_later e = later_own e (rw (own_form form, eq-eqb ssrc ssrc refl))

  -- arrivals that are taken are the trace's own
  pub later_arrivals : {n : ℕ} → later_of form ssrc b ≡ Ok n → block_of b ≡ Ok (Arrivals form n ssrc)
  unfolding later_of
  later_arrivals {n} e = go (block_of b) refl e
    where
      the_block : Result Block Refusal → Result Block Refusal
      the_block r = r

      by_own : (its : Form) (k number : ℕ) (t : Bool) → (same_form its form && eqb number ssrc) ≡ t → cond t (Ok k) (Err Contents) ≡ Ok n
          → ◌≡◌ {A = Result Block Refusal} (Ok (Arrivals its k number)) (Ok (Arrivals form n ssrc))
      by_own its k number true q e =
          let count : k ≡ n = cc in
          let one = same_form_lem its form (and_left (same_form its form) (eqb number ssrc) q) in
          let same = eqb-true number ssrc (and_right (same_form its form) (eqb number ssrc) q) in
          ap₂ (λ (f : Form) (s : ℕ). the_block (Ok (Arrivals f k s))) one same ∙ ap (λ (m : ℕ). the_block (Ok (Arrivals form m ssrc))) count
      by_own its k number false q e = let z : ◌≡◌ {A = ℕ} 0 1 = cc in absurd (omega arith)

      go : (r : Result Block Refusal) → block_of b ≡ r → later_by form ssrc r ≡ Ok n → block_of b ≡ Ok (Arrivals form n ssrc)
      go (Ok (Label its k number)) q e = let z : ◌≡◌ {A = ℕ} 0 1 = cc in absurd (omega arith)
      go (Ok (Arrivals its k number)) q e = q ∙ by_own its k number (same_form its form && eqb number ssrc) refl e
      go (Err refusal) q e = let z : ◌≡◌ {A = ℕ} 0 1 = cc in absurd (omega arith)

  -- a block that is not whole
  pub later_short : (length b ≡ 512 → ⊥) → later_of form ssrc b ≡ Err Incomplete
  later_short h = later_by_lem (sym (not_whole b h))
