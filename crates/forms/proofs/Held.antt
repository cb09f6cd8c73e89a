-- The records that are held. Assumes nothing.
use mathlib.Core.Path.{◌≡◌, sym, ap, ◌∙◌}
use mathlib.Core.Bool.{Bool, true, false, and-true}
use mathlib.Core.List.{List}
use Prim.Native.Nat.{ℕ, ◌*◌, ◌≤◌, ◌<◌}
use native.Mathlib.Nat.{mul-div_cancel, mul-mod_left}
use native.Mathlib.Omega.{arith}
use borrow.Author.Tests.{le-leb, lt-ltb, leb-true, ltb-true}
use lib.ListN.{length, take, drop, get_or, take-append-drop}
use lib.Seq.{length-take-le}
use Rattle.answers.proofs.Conditions.{all_true, all_false}
use Rattle.format.specs.Blocks.{body_bytes}
use Rattle.format.specs.Forms.{Shape, width, other_form}
use Rattle.format.proofs.Fits.{fits, records_fit}
use Rattle.trace.specs.Contents.{count_ok, good_records}
use Rattle.trace.specs.Writing.{body_ok}
use Rattle.trace.proofs.Records.{good_left}
use Rattle.forms.specs.Conversions.{to_shape, conditions, sound}
use Rattle.forms.specs.declared.Conversion.{Conversion}

-- ---- bytes of records at the front of a list

module _ (shape : Shape) (n : ℕ) (s : List ℕ) (h : n * width shape ≤ length s) where
  pub good_take : good_records shape n (take (n * width shape) s) ≡ good_records shape n s
  good_take =
      sym (good_left shape n (take (n * width shape) s) (drop (n * width shape) s) (omega (arith, length-take-le (n * width shape) s h)))
      ∙ ap (good_records shape n) (take-append-drop (n * width shape) s)

  -- they are a block's just where each is good
  pub body_good : 1 ≤ n → n ≤ shape.most → body_ok shape (take (n * width shape) s) ≡ good_records shape n s
  unfolding body_ok count_ok
  body_good some few =
      rw (length-take-le (n * width shape) s h, mul-mod_left n (width shape), mul-div_cancel n {n = width shape} (omega arith), le-leb 1 n some, le-leb n shape.most few)
      (and-true (good_records shape n (take (n * width shape) s)) ∙ good_take)

-- ---- a sound conversion

-- what is known of it
pub record Sound (c : Conversion) (part : List ℕ) : Type 0 where
  pub room : body_bytes ≤ length part
  pub few : c.held < (to_shape c).most
  pub good : good_records (to_shape c) c.held part ≡ true

module _ {c : Conversion} {part : List ℕ} where
  pub is_sound_lem : sound c part ≡ true → Sound c part
  unfolding sound
  is_sound_lem e = record {
    room = leb-true body_bytes (length part) (all_true (conditions c part) 0 e);
    few = ltb-true c.held (to_shape c).most (all_true (conditions c part) 1 e);
    good = all_true (conditions c part) 2 e;
  }

  pub sound_is : Sound c part → sound c part ≡ true
  unfolding sound
  sound_is s = rw (le-leb body_bytes (length part) s.room, lt-ltb c.held (to_shape c).most s.few, s.good)

module _ (c : Conversion) (part : List ℕ) where
  pub not_sound : (i : ℕ) → get_or (conditions c part) i true ≡ false → false ≡ sound c part
  unfolding sound
  not_sound i e = all_false (conditions c part) i e

  -- the records lie in the part
  pub held_fits : body_bytes ≤ length part → c.held < (to_shape c).most → c.held * width (to_shape c) ≤ length part
  held_fits room few = omega (arith, records_fit (fits (other_form c.form)) {n = c.held} (omega arith))

  pub sound_last : body_bytes ≤ length part → c.held < (to_shape c).most → {r : Bool} → r ≡ good_records (to_shape c) c.held part → r ≡ sound c part
  unfolding sound
  sound_last room few e =
      rw (le-leb body_bytes (length part) room, lt-ltb c.held (to_shape c).most few) (e ∙ sym (and-true (good_records (to_shape c) c.held part)))

  -- none is held
  pub sound_none : body_bytes ≤ length part → c.held < (to_shape c).most → c.held ≡ 0 → true ≡ sound c part
  unfolding good_records
  sound_none room few e = sound_last room few (ap (λ (n : ℕ). good_records (to_shape c) n part) (sym e))
