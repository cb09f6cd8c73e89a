-- How a buffer is filled, read by read. Assumes nothing.
use mathlib.Core.Path.{◌≡◌, refl, sym, ap, ◌∙◌}
use mathlib.Core.Bool.{true, false, cond}
use mathlib.Core.List.{List}
use Prim.Native.Nat.{ℕ, ◌+◌, ◌-◌, ◌*◌, ◌<◌, ◌≤◌, min}
use native.Mathlib.Omega.{arith}
use borrow.Author.Tests.{ltb-true, ltb-false}
use borrow.Rule.Slice.PartMut.{put_mid, take_put}
use lib.Dec.{ltb}
use lib.ListN.{length, take}
use lib.Seq.{take-take}
use Rattle.answers.proofs.Conditions.{and_left, and_right, and_goes}
use Rattle.shell.specs.Tries.{tries, bytes_in}
use Rattle.shell.specs.Fills.{Filled, ReadOn, begun, is_more, goes_on, reading_after}
use Rattle.shell.specs.declared.reading.Input.{Input}
use Rattle.shell.specs.declared.reading.Reading.{Reading}
use Rattle.shell.specs.declared.retries.Outcome.{Outcome}
use Rattle.shell.specs.declared.retries.Outcome.TheVariants.{Bytes, Nothing, Again, Failed}
use Rattle.shell.proofs.Answered.{Fair}
use Rattle.shell.proofs.Asked.{none_of}
use Rattle.shell.proofs.Lefts.{take-clipped}

-- how far it has come
pub record Stands (first enough whole : ℕ) (r : Reading) : Type 0 where
  pub after : first ≤ r.input.bytes
  pub inside : r.input.bytes ≤ whole
  pub short : is_more r.input.ahead ≡ false → r.input.bytes < enough
  pub few : r.left ≤ tries

-- a number that falls with each read
unfoldable pub to_go : ℕ → Reading → ℕ
to_go whole r = cond (is_more r.input.ahead) ((whole - r.input.bytes) * 4294967296 + r.left + 1) 0

pub begun_stands : {first enough whole : ℕ} {r : Reading} → first ≤ whole → r ≡ begun first → Stands first enough whole r
begun_stands h e = rw e (record { after = omega arith; inside = h; short = λ f. none_of (cc); few = omega arith })

-- ---- whether it goes on

-- while it goes on more may come, and a byte is not there yet
pub goes_more : (r : Reading) (n : ℕ) → goes_on r n ≡ true → (is_more r.input.ahead ≡ true) × (r.input.bytes < n)
unfolding goes_on
goes_more r n e =
    let more = is_more r.input.ahead in
    let room = ltb r.input.bytes n in
    (and_left more room e, ltb-true r.input.bytes n (and_right more room e))

-- when it stops and more may come every byte is there
stops_full : (r : Reading) (n : ℕ) → goes_on r n ≡ false → is_more r.input.ahead ≡ true → n ≤ r.input.bytes
unfolding goes_on
stops_full r n e m =
    let room = ltb r.input.bytes n in
    ltb-false r.input.bytes n (and_goes (is_more r.input.ahead) room room m refl ∙ e)

-- ---- a read

pub after_fits : (whole : ℕ) (r : Reading) (o : Outcome) → r.input.bytes < whole → Fair (whole - r.input.bytes) r.left o → r.input.bytes + bytes_in o ≤ whole
after_fits whole r (Bytes k) h f = omega arith
after_fits whole r Nothing h f = omega arith
after_fits whole r (Again k) h f = omega arith
after_fits whole r Failed h f = omega arith

pub after_stands : (first enough whole : ℕ) (r : Reading) (o : Outcome) → Stands first enough whole r → r.input.bytes < enough → r.input.bytes < whole
    → Fair (whole - r.input.bytes) r.left o → Stands first enough whole (reading_after r o)
after_stands first enough whole r (Bytes k) s g h f = record { after = omega (arith, s.after); inside = omega arith; short = λ e. none_of (cc); few = omega arith }
after_stands first enough whole r Nothing s g h f = record { after = s.after; inside = omega arith; short = λ e. g; few = s.few }
after_stands first enough whole r (Again k) s g h f = record { after = s.after; inside = omega arith; short = λ e. none_of (cc); few = omega (arith, s.few) }
after_stands first enough whole r Failed s g h f = record { after = s.after; inside = omega arith; short = λ e. g; few = s.few }

pub after_less : (whole : ℕ) (r : Reading) (o : Outcome) → is_more r.input.ahead ≡ true → r.input.bytes < whole
    → Fair (whole - r.input.bytes) r.left o → to_go whole (reading_after r o) < to_go whole r
unfolding to_go
after_less whole r (Bytes k) m h f = rw m (omega arith)
after_less whole r Nothing m h f = rw m (omega arith)
after_less whole r (Again k) m h f = rw m (omega arith)
after_less whole r Failed m h f = rw m (omega arith)

-- ---- the end

pub stands_filled : (first enough n : ℕ) (r : Reading) → Stands first enough n r → goes_on r enough ≡ false → Filled first enough n r.input
stands_filled first enough n r s e = record { after = s.after; inside = s.inside; full = λ m. stops_full r enough e m; short = s.short }

-- what is read into a part of a buffer leaves the bytes before it
pub front_stays : (first at k : ℕ) (xs ys : List ℕ) → first ≤ at → at ≤ length xs → take first (put_mid at k xs ys) ≡ take first xs
front_stays first at k xs ys h n = sym (take-take first at (put_mid at k xs ys) h) ∙ ap (take first) (take_put at k xs ys n) ∙ take-take first at xs h

-- one read, from places that are held to the buffer's length
pub reads_once : (first : ℕ) (old : List ℕ) {kept enough : ℕ} {r : Input} {new : List ℕ} → kept ≡ min first (length old) → enough ≡ min (kept + 1) (length old)
    → Filled kept enough (length old) r → take kept new ≡ take kept old → length new ≡ length old → ReadOn first old r new
reads_once first old {kept} {enough} {r} {new} k m f e n =
    let here : min first (length new) ≡ kept = omega arith in
    record {
      filled =
          record {
            after = omega (arith, f.after);
            inside = f.inside;
            full = λ a. omega (arith, f.full a);
            short = λ a. omega (arith, f.short a);
          };
      front =
          sym (take-clipped new first)
          ∙ ap (λ (i : ℕ). take i new) here
          ∙ e
          ∙ ap (λ (i : ℕ). take i old) k
          ∙ take-clipped old first;
    }
