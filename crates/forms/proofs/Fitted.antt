-- The loop over the blocks of a piece: its turns, and its ways out. Assumes nothing.
use Rattle.std.specs.Prelude.{Some, None, Result, Ok, Err}
use Rattle.answers.specs.declared.Unwritten.{Unwritten}
use mathlib.Core.Path.{◌≡◌, refl, sym, ap, ◌∙◌, subst}
use mathlib.Core.Bool.{true}
use mathlib.Core.List.{List, ◌∷◌}
use Prim.Native.Nat.{ℕ, suc, ◌+◌, ◌-◌, ◌/◌, ◌≤◌, ◌<◌}
use native.Mathlib.Omega.{arith}
use lib.ListN.{length, take, drop, length-drop}
use lib.Seq.{drop-drop}
use Rattle.answers.specs.declared.Refusal.{Refusal}
use Rattle.format.specs.Blocks.{block_bytes}
use Rattle.numbers.proofs.BigEndian.{Octets}
use Rattle.numbers.proofs.Octets.{octets_take, octets_drop}
use Rattle.walk.specs.Pieces.{whole_in}
use Rattle.walk.specs.Steps.{Next, state_after}
use Rattle.walk.specs.Puts.{PutBy}
use Rattle.walk.proofs.Pieces.{whole_first}
use Rattle.walk.proofs.Loops.{Going, going_first, going_last, going_taken, going_pauses, going_refused}
use Rattle.forms.specs.declared.Conversion.{Conversion}
use Rattle.forms.specs.declared.Step.{Step}
use Rattle.forms.specs.Conversions.{next_of, sound, bytes_in, Carried, carries, carried_by}
use Rattle.forms.specs.Converted.{kept_of, ecnforms}
use Rattle.forms.specs.Pieces.{carried_over, Puts, Fitted}
use Rattle.forms.proofs.Held.{sound_is}
use Rattle.forms.proofs.Carrying.{Holds, holds_sound, Turns, turn_goes, turn_refuses}

-- `start` and `lent` are the conversion and the part before the loop, `c` and `part` those now; `carried` says it of the blocks that are left, any number of them
pub record Loop (start : Conversion) (lent piece old : List ℕ) (c : Conversion) (part : List ℕ) (at : ℕ) (out : List ℕ) (used : ℕ) : Type 0 where
  pub holds : Holds c part
  pub long : length part ≡ length lent
  pub going : (first : ℕ) → Going ecnforms first piece old (kept_of start lent) (kept_of c part) at out used
  pub carried : (k : ℕ) → carried_over (carries start lent) (take (at / block_bytes + k) (whole_in piece)) ≡ carried_over (carries c part) (take k (whole_in (drop at piece)))

pub loop_first : {start : Conversion} {lent piece old : List ℕ} → Octets lent → sound start lent ≡ true → Loop start lent piece old start lent 0 old 0
loop_first {start} {lent} {piece} {old} o s = record {
  holds = holds_sound o s;
  long = refl;
  going = λ first. going_first ecnforms first piece old (kept_of start lent);
  carried = λ k. let e : 0 / block_bytes + k ≡ k = omega arith in ap (λ (n : ℕ). carried_over (carries start lent) (take n (whole_in piece))) e;
}

module _ {start : Conversion} {lent piece old : List ℕ} {c : Conversion} {part : List ℕ} {at : ℕ} {out : List ℕ} {used : ℕ} (l : Loop start lent piece old c part at out used) where
  -- what is known at each turn
  pub loop_sound : sound c part ≡ true
  loop_sound = sound_is l.holds.sound

  pub loop_within : at ≤ length piece
  loop_within = (l.going 0).within

  pub loop_inside : used ≤ length old
  loop_inside = (l.going 0).inside

  pub loop_size : length out ≡ length old
  loop_size = (l.going 0).left.size

  -- what is carried where the loop ends
  carried_here : carried_over (carries start lent) (take (at / block_bytes) (whole_in piece)) ≡ carries c part
  unfolding carried_over
  carried_here = let e : at / block_bytes ≡ at / block_bytes + 0 = omega arith in ap (λ (n : ℕ). carried_over (carries start lent) (take n (whole_in piece))) e ∙ l.carried 0

  pub loop_last : length piece - at < block_bytes → Fitted start lent piece old c at used None part out
  loop_last h = record {
    reached = λ first. going_last ecnforms first piece old (kept_of start lent) (l.going first) (omega (arith, h, loop_within));
    carried = carried_here;
  }

  module _ (h : block_bytes ≤ length piece - at) {end : ℕ} (is : end ≡ at + block_bytes) where
    -- the block as the code has it
    abbrev block : List ℕ
    block = take (end - at) (drop at piece)

    abbrev brings : Next Carried
    brings = carried_by c part (next_of c.form c.ssrc block)

    block_is : block ≡ take block_bytes (drop at piece)
    block_is = let e : end - at ≡ block_bytes = omega arith in ap (λ (n : ℕ). take n (drop at piece)) e

    inside : at + block_bytes ≤ length piece
    inside = omega (arith, h)

    -- the blocks that are left: this one, and the others
    blocks_left_lem : whole_in (drop at piece) ≡ block ∷ whole_in (drop end piece)
    blocks_left_lem =
        whole_first (drop at piece) (omega (arith, length-drop at piece, h))
        ∙ ap (λ (b : List ℕ). b ∷ whole_in (drop block_bytes (drop at piece))) (sym block_is)
        ∙ ap (λ (s : List ℕ). block ∷ whole_in s) (drop-drop block_bytes at piece ∙ ap (λ (n : ℕ). drop n piece) (sym is))

    carried_next : {s : Carried} → Turns c part block s → (k : ℕ)
        → carried_over (carries start lent) (take (end / block_bytes + k) (whole_in piece)) ≡ carried_over s (take k (whole_in (drop end piece)))
    unfolding carried_over
    carried_next t k =
        let e : end / block_bytes + k ≡ at / block_bytes + suc k = omega (arith, is, (l.going 0).at_block) in
        ap (λ (n : ℕ). carried_over (carries start lent) (take n (whole_in piece))) e
        ∙ l.carried (suc k)
        ∙ ap (λ (bs : List (List ℕ)). carried_over (carries c part) (take (suc k) bs)) blocks_left_lem
        ∙ ap (λ (s : Carried). carried_over s (take k (whole_in (drop end piece)))) t.after

    module _ {r : Step} {kept now : List ℕ} (p : Puts c part (next_of c.form c.ssrc block) out used r kept now) where
      put_by : {w : Result ℕ Unwritten} → r.answer ≡ w → PutBy brings (bytes_in c part (next_of c.form c.ssrc block)) out used (carries r.conversion kept) now w
      put_by e = subst (PutBy brings (bytes_in c part (next_of c.form c.ssrc block)) out used (carries r.conversion kept) now) e p.put

      -- the part stays as it was
      same_part : {w : Result ℕ Unwritten} → r.answer ≡ w → state_after (carries c part) brings w ≡ carries c part → kept ≡ part
      same_part e s = ap (λ (s : Carried). s.part) (p.after ∙ ap (state_after (carries c part) brings) e ∙ s)

      pub loop_taken : Octets piece → {n : ℕ} → r.answer ≡ Ok n → length kept ≡ length part → Loop start lent piece old r.conversion kept end now (used + n)
      loop_taken o {n} e long =
          let w = put_by e in
          let t = turn_goes l.holds block (octets_take (end - at) (drop at piece) (octets_drop at piece o)) w.does in
          record {
            holds = t.holds;
            long = long ∙ l.long;
            going = λ first.
                subst (λ (e : ℕ). Going ecnforms first piece old (kept_of start lent) (kept_of r.conversion kept) e now (used + n)) (sym is)
                (going_taken ecnforms first piece old (kept_of start lent) (l.going first) inside (kept_of r.conversion kept) (bytes_in c part (next_of c.form c.ssrc block))
                (ap (ecnforms.step (first + (l.going first).done) (kept_of c part)) (sym block_is) ∙ t.turn (first + (l.going first).done))
                w.long (omega (arith, w.room, loop_size)) w.stores);
            carried = carried_next t;
          }

      pub loop_pauses : Octets piece → {u : Unwritten} {n : ℕ} → r.answer ≡ Err u → u ≡ Unwritten.Room n → Fitted start lent piece old c at used None kept now
      loop_pauses o {n = n} fails why =
          let e : r.answer ≡ Err (Unwritten.Room n) = fails ∙ ap Err why in
          let w = put_by e in
          let t = turn_goes l.holds block (octets_take (end - at) (drop at piece) (octets_drop at piece o)) w.does in
          let stays = same_part e (ap (λ (b : Next Carried). state_after (carries c part) b (Err (Unwritten.Room n))) w.does) in
          rw (stays, w.stores) (record {
            reached = λ first.
                going_pauses ecnforms first piece old (kept_of start lent) (l.going first) inside (kept_of w.brings.conversion w.brings.part) (bytes_in c part (next_of c.form c.ssrc block))
                (ap (ecnforms.step (first + (l.going first).done) (kept_of c part)) (sym block_is) ∙ t.turn (first + (l.going first).done)) (omega (arith, w.room, loop_size));
            carried = carried_here;
          })

      pub loop_refused : {u : Unwritten} {refusal : Refusal} → r.answer ≡ Err u → u ≡ Unwritten.Refused refusal → Fitted start lent piece old c at used (Some refusal) kept now
      loop_refused {refusal = refusal} fails why =
          let e : r.answer ≡ Err (Unwritten.Refused refusal) = fails ∙ ap Err why in
          let w = put_by e in
          let stays = same_part e (ap (λ (b : Next Carried). state_after (carries c part) b (Err (Unwritten.Refused refusal))) w.does) in
          rw (stays, w.stores) (record {
            reached = λ first.
                going_refused ecnforms first piece old (kept_of start lent) (l.going first) inside refusal
                (ap (ecnforms.step (first + (l.going first).done) (kept_of c part)) (sym block_is) ∙ turn_refuses c part block w.does (first + (l.going first).done));
            carried = carried_here;
          })
