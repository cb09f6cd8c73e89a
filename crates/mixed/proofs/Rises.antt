-- The lines are in rising order of SSRC, and each gives a row. Assumes nothing.
use Rattle.std.specs.Prelude.{Option, Some, None, Result, Ok, Err}
use Rattle.answers.specs.declared.Refusal.{Refusal}
use mathlib.Core.Path.{◌≡◌, refl, sym, ap, ◌∙◌, subst}
use mathlib.Core.Bool.{Bool, true, false, cond}
use mathlib.Core.List.{List, [], ◌∷◌, map, append-nil}
use Prim.Native.Nat.{ℕ, suc, ◌<◌}
use native.Mathlib.Omega.{arith}
use borrow.Author.Tests.{eqb-true, eqb-false, ltb-true, ltb-false}
use lib.Dec.{eqb, ltb}
use lib.ListN.{length}
use Rattle.answers.specs.declared.Refusal.TheVariants.{Contents, Places}
use Rattle.format.specs.Forms.{same_form}
use Rattle.format.specs.declared.Form.{Form}
use Rattle.source.specs.declared.Totals.{Totals}
use Rattle.source.specs.Totals.{fresh_totals}
use Rattle.trace.specs.Reading.{block_of}
use Rattle.trace.specs.declared.Block.{Block}
use Rattle.trace.specs.declared.Block.TheVariants as read
use Rattle.table.specs.Lines.{head_bytes}
use Rattle.walk.specs.Programs.{Printed, nothing, both, to_output, turned, onward, walk, walked, closed, printed_by}
use Rattle.walk.specs.Steps.{Next, goes, refuses}
use Rattle.mixed.specs.declared.Line.{Line}
use Rattle.mixed.specs.Places.{found_by, renewed_by, added_by}
use Rattle.mixed.specs.Lines.{by_value}
use Rattle.mixed.specs.Blocks.{counted, settled_by, settled, next_by, next_of}
use Rattle.mixed.specs.Tables.{Kept, begun_by, taken, ended, ecnstreams}
use Rattle.mixed.specs.Theorems.{Rising, InOrder, LinesRise, HeadThenRows}
use Rattle.mixed.proofs.Alike.{mapped, found_alike, renewed_alike, added_alike}
use Rattle.mixed.proofs.Kept.{length-renewed}
use Rattle.mixed.proofs.Standing.{length-added}

-- ---- SSRCs by themselves

abbrev pub self : ℕ → ℕ
self ssrc = ssrc

pub renewed_same : (new : ℕ) (ss : List ℕ) → renewed_by self new ss ≡ ss
unfolding renewed_by
renewed_same new [] = refl
renewed_same new (s ∷ ss) = go (eqb s new) refl (renewed_same new ss)
  where
    go : (t : Bool) → eqb s new ≡ t → renewed_by self new ss ≡ ss → cond t (new ∷ ss) (s ∷ renewed_by self new ss) ≡ s ∷ ss
    go true e more = ap (λ (a : ℕ). a ∷ ss) (sym (eqb-true s new e))
    go false e more = ap (λ (l : List ℕ). s ∷ l) more

-- none of the first of them
not_first : (new s : ℕ) (ss : List ℕ) → found_by self new (s ∷ ss) ≡ None → (eqb s new ≡ false) × (found_by self new ss ≡ None)
unfolding found_by
not_first new s ss e = go (eqb s new) refl e
  where
    go : (t : Bool) → eqb s new ≡ t → cond t (Some s) (found_by self new ss) ≡ None → (eqb s new ≡ false) × (found_by self new ss ≡ None)
    go true q e = let z : ◌≡◌ {A = ℕ} 0 1 = cc in absurd (omega arith)
    go false q e = (q, e)

module _ (new : ℕ) where
  added_behind : (a : ℕ) (ss : List ℕ) → a < new → Rising (a ∷ ss) → found_by self new ss ≡ None → Rising (a ∷ added_by self new ss)
  unfolding added_by
  added_behind a [] less r e = (less, tt)
  added_behind a (s ∷ ss) less r e = let n = not_first new s ss e in go (ltb s new) refl n.0 (λ below. added_behind s ss below r.1 n.1)
    where
      go : (t : Bool) → ltb s new ≡ t → eqb s new ≡ false → (s < new → Rising (s ∷ added_by self new ss)) → Rising (a ∷ cond t (s ∷ added_by self new ss) (new ∷ s ∷ ss))
      go true q n more = (r.0, more (ltb-true s new q))
      go false q n more = (less, (let above = ltb-false s new q in let other = eqb-false s new n in omega arith, r.1))

  added_rises : (ss : List ℕ) → Rising ss → found_by self new ss ≡ None → Rising (added_by self new ss)
  unfolding added_by
  added_rises [] r e = tt
  added_rises (s ∷ ss) r e = let n = not_first new s ss e in go (ltb s new) refl n.0 n.1
    where
      go : (t : Bool) → ltb s new ≡ t → eqb s new ≡ false → found_by self new ss ≡ None → Rising (cond t (s ∷ added_by self new ss) (new ∷ s ∷ ss))
      go true q n m = added_behind s ss (ltb-true s new q) r m
      go false q n m = (let above = ltb-false s new q in let other = eqb-false s new n in omega arith, r)

-- ---- the lines behind a block

abbrev pub ssrc_of : Line → ℕ
ssrc_of l = l.ssrc

abbrev Keeps : Next (List Line) → Type 0
Keeps (goes ls) = InOrder ls
Keeps (refuses refusal) = Unit {0}

module _ (count : Totals → Totals) (ssrc : ℕ) (ls : List Line) (o : InOrder ls) where
  settled_keeps : Keeps (settled by_value count ssrc ls)
  unfolding settled
  settled_keeps = go (found_by ssrc_of ssrc ls) refl
    where
      with_room : (t : Bool) (new : Line) → ltb (length ls) 16 ≡ t → found_by ssrc_of new.ssrc ls ≡ None → Keeps (cond t (goes (added_by ssrc_of new ls)) (refuses Places))
      with_room true new q e =
          let nowhere = found_alike ssrc_of ssrc_of self (λ l. refl) new.ssrc ls ∙ ap (mapped ssrc_of) e in
          let less = ltb-true (length ls) 16 q in
          record {
            rising = subst Rising (added_alike ssrc_of ssrc_of self (λ l. refl) new ls) (added_rises new.ssrc (map ssrc_of ls) o.rising nowhere);
            few = omega (arith, length-added ssrc_of new ls);
          }
      with_room false new q e = tt

      go : (found : Option Line) → found_by ssrc_of ssrc ls ≡ found → Keeps (settled_by by_value count ssrc ls found)
      go None e = with_room (ltb (length ls) 16) (record { ssrc = ssrc; totals = count fresh_totals }) refl e
      go (Some l) e =
          let new : Line = record { ssrc = ssrc; totals = count l.totals } in
          let same = sym (renewed_same ssrc (map ssrc_of ls)) ∙ renewed_alike ssrc_of ssrc_of self (λ l. refl) new ls in
          record { rising = subst Rising same o.rising; few = omega (arith, length-renewed ssrc_of new ls, o.few) }

next_keeps : (own : Form) (b : List ℕ) (ls : List Line) → InOrder ls → Keeps (next_of by_value own b ls)
unfolding next_of
next_keeps own b ls o = go (block_of b)
  where
    chosen : (t : Bool) (n ssrc : ℕ) → Keeps (cond t (settled by_value (counted own n b) ssrc ls) (refuses Contents))
    chosen true n ssrc = settled_keeps (counted own n b) ssrc ls o
    chosen false n ssrc = tt

    go : (r : Result Block Refusal) → Keeps (next_by by_value own b ls r)
    go (Ok (read.Arrivals form n ssrc)) = chosen (same_form form own) n ssrc
    go (Ok (read.Label form n ssrc)) = tt
    go (Err refusal) = tt

-- ---- behind any blocks

walk_rises : (i : ℕ) (bs : List (List ℕ)) (k : Kept) → InOrder k.lines → InOrder (walk ecnstreams i bs k).state.lines
unfolding walk onward
walk_rises i [] k o = o
walk_rises i (b ∷ bs) k o = go (next_of by_value k.form b k.lines) (next_keeps k.form b k.lines o) (λ k. walk_rises (suc i) bs k)
  where
    go : (next : Next (List Line)) → Keeps next → ((k : Kept) → InOrder k.lines → InOrder (walk ecnstreams (suc i) bs k).state.lines)
        → InOrder (onward (turned i (taken k next)) (walk ecnstreams (suc i) bs)).state.lines
    go (goes ls) s later = later (record { form = k.form; label = k.label; lines = ls }) s
    go (refuses refusal) s later = o

pub lines_rise : LinesRise
unfolding walked onward
lines_rise bs = go (block_of bs.zeroth)
  where
    none_yet : InOrder []
    none_yet = record { rising = tt; few = omega arith }

    go : (r : Result Block Refusal) → InOrder (onward (turned 0 (begun_by bs.zeroth r)) (walk ecnstreams 1 bs.others)).state.lines
    go (Ok (read.Label form n ssrc)) = walk_rises 1 bs.others _ none_yet
    go (Ok (read.Arrivals form n ssrc)) = none_yet
    go (Err refusal) = none_yet

-- ---- what is printed

walk_prints : (i : ℕ) (bs : List (List ℕ)) (k : Kept) → (walk ecnstreams i bs k).printed ≡ nothing
unfolding walk onward
walk_prints i [] k = refl
walk_prints i (b ∷ bs) k = go (next_of by_value k.form b k.lines) (λ k. walk_prints (suc i) bs k)
  where
    go : (next : Next (List Line)) → ((k : Kept) → (walk ecnstreams (suc i) bs k).printed ≡ nothing)
        → (onward (turned i (taken k next)) (walk ecnstreams (suc i) bs)).printed ≡ nothing
    go (goes ls) later = later (record { form = k.form; label = k.label; lines = ls })
    go (refuses refusal) later = refl

pub head_then_rows : HeadThenRows
unfolding printed_by closed walked onward
head_then_rows bs = ap (λ (p : Printed). both p (ended (walked ecnstreams bs).state (walked ecnstreams bs).ended)) (go (block_of bs.zeroth))
  where
    go : (r : Result Block Refusal) → (onward (turned 0 (begun_by bs.zeroth r)) (walk ecnstreams 1 bs.others)).printed ≡ to_output head_bytes
    go (Ok (read.Label form n ssrc)) = ap (both (to_output head_bytes)) (walk_prints 1 bs.others (record { form = form; label = _; lines = [] })) ∙ λ i. record { out = append-nil head_bytes i; err = [] }
    go (Ok (read.Arrivals form n ssrc)) = refl
    go (Err refusal) = refl
