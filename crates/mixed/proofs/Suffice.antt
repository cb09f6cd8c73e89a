-- Of at most 16 sources no block is refused. Assumes nothing.
use Rattle.std.specs.Prelude.{Option, Some, None, Ok}
use mathlib.Core.Path.{◌≡◌, refl, sym, ap, ◌∙◌, subst}
use mathlib.Core.Bool.{Bool, true, false, cond, ◌||◌}
use mathlib.Core.List.{List, [], ◌∷◌, map}
use Prim.Native.Nat.{ℕ, suc, ◌+◌, ◌≤◌}
use native.Mathlib.Omega.{arith}
use borrow.Author.Tests.{eqb-true, eq-eqb, lt-ltb}
use lib.Dec.{eqb, ltb}
use lib.ListN.{length}
use Rattle.format.specs.Forms.{shape_of}
use Rattle.format.specs.declared.Form.{Form}
use Rattle.source.specs.declared.Totals.{Totals}
use Rattle.source.specs.Totals.{fresh_totals}
use Rattle.trace.specs.Reading.{block_of}
use Rattle.trace.specs.declared.Block.TheVariants as read
use Rattle.walk.specs.Blocks.{blocks_of}
use Rattle.walk.specs.Programs.{turned, onward, walk, walked}
use Rattle.walk.specs.Steps.{Next, goes, refuses}
use Rattle.mixed.specs.declared.Line.{Line}
use Rattle.mixed.specs.Places.{found_by, renewed_by, added_by}
use Rattle.mixed.specs.Lines.{by_value}
use Rattle.mixed.specs.Blocks.{counted, settled_by, settled, next_of}
use Rattle.mixed.specs.Tables.{Kept, taken, ecnstreams}
use Rattle.mixed.specs.Theorems.{among, OfSources, SixteenSuffice}
use Rattle.mixed.proofs.Alike.{mapped, found_alike, renewed_alike, added_alike}
use Rattle.mixed.proofs.Kept.{length-renewed}
use Rattle.mixed.proofs.Standing.{length-added}
use Rattle.mixed.proofs.Rises.{self, renewed_same, ssrc_of}

-- ---- SSRCs in a list

-- what stands in no place of a list is not in it
nowhere : (ssrc : ℕ) (ss : List ℕ) → found_by self ssrc ss ≡ None → among ssrc ss ≡ false
unfolding found_by
nowhere ssrc [] e = refl
nowhere ssrc (s ∷ ss) e = go (eqb s ssrc) e (nowhere ssrc ss)
  where
    go : (t : Bool) → cond t (Some s) (found_by self ssrc ss) ≡ None → (found_by self ssrc ss ≡ None → among ssrc ss ≡ false) → (t || among ssrc ss) ≡ false
    go true e more = let z : ◌≡◌ {A = ℕ} 0 1 = cc in absurd (omega arith)
    go false e more = more e

-- a list with one SSRC more
among_added : (new ssrc : ℕ) (ss : List ℕ) → among ssrc (added_by self new ss) ≡ (eqb new ssrc || among ssrc ss)
unfolding added_by
among_added new ssrc [] = refl
among_added new ssrc (s ∷ ss) = go (ltb s new) (among_added new ssrc ss)
  where
    turned_round : (a b c : Bool) → (a || (b || c)) ≡ (b || (a || c))
    turned_round true true c = refl
    turned_round true false c = refl
    turned_round false true c = refl
    turned_round false false c = refl

    go : (t : Bool) → among ssrc (added_by self new ss) ≡ (eqb new ssrc || among ssrc ss)
        → among ssrc (cond t (s ∷ added_by self new ss) (new ∷ s ∷ ss)) ≡ (eqb new ssrc || (eqb s ssrc || among ssrc ss))
    go true e = ap (λ (b : Bool). eqb s ssrc || b) e ∙ turned_round (eqb s ssrc) (eqb new ssrc) (among ssrc ss)
    go false e = refl

-- a list with one SSRC fewer
unfoldable without : ℕ → List ℕ → List ℕ
without ssrc [] = []
without ssrc (s ∷ ss) = cond (eqb s ssrc) ss (s ∷ without ssrc ss)

length_without : (ssrc : ℕ) (ss : List ℕ) → among ssrc ss ≡ true → suc (length (without ssrc ss)) ≡ length ss
unfolding without
length_without ssrc [] e = let z : ◌≡◌ {A = ℕ} 0 1 = cc in absurd (omega arith)
length_without ssrc (s ∷ ss) e = go (eqb s ssrc) e (length_without ssrc ss)
  where
    go : (t : Bool) → (t || among ssrc ss) ≡ true → (among ssrc ss ≡ true → suc (length (without ssrc ss)) ≡ length ss)
        → suc (length (cond t ss (s ∷ without ssrc ss))) ≡ suc (length ss)
    go true e more = refl
    go false e more = ap suc (more e)

-- any other stays
among_without : (ssrc other : ℕ) (ss : List ℕ) → eqb ssrc other ≡ false → among other ss ≡ true → among other (without ssrc ss) ≡ true
unfolding without
among_without ssrc other [] n e = e
among_without ssrc other (s ∷ ss) n e = go (eqb s ssrc) refl e (among_without ssrc other ss n)
  where
    kept : (t : Bool) → (t || among other ss) ≡ true → (among other ss ≡ true → among other (without ssrc ss) ≡ true) → (t || among other (without ssrc ss)) ≡ true
    kept true e more = refl
    kept false e more = more e

    go : (t : Bool) → eqb s ssrc ≡ t → (eqb s other || among other ss) ≡ true → (among other ss ≡ true → among other (without ssrc ss) ≡ true)
        → among other (cond t ss (s ∷ without ssrc ss)) ≡ true
    go true q e more = (rw (eqb-true s ssrc q, n) at e)
    go false q e more = kept (eqb s other) e more

-- ---- what is left for new lines

-- each SSRC of the list has its line, or stands among those left, and there are lines for these too
record Covered (ssrcs : List ℕ) (ls : List Line) : Type 0 where
  left : List ℕ
  few : length ls + length left ≤ 16
  covers : (ssrc : ℕ) → among ssrc ssrcs ≡ true → (among ssrc (map ssrc_of ls) || among ssrc left) ≡ true

module _ (ssrcs : List ℕ) where
  abbrev Continues : Next (List Line) → Type 0
  Continues (goes ls) = Covered ssrcs ls
  Continues (refuses refusal) = ⊥

  module _ (ssrc : ℕ) (in_List : among ssrc ssrcs ≡ true) (ls : List Line) (c : Covered ssrcs ls) where
    -- its line is renewed
    renewed_covers : (t : Totals) → Covered ssrcs (renewed_by ssrc_of (record { ssrc = ssrc; totals = t }) ls)
    renewed_covers t =
        let new : Line = record { ssrc = ssrc; totals = t } in
        let same = sym (renewed_same ssrc (map ssrc_of ls)) ∙ renewed_alike ssrc_of ssrc_of self (λ l. refl) new ls in
        record {
          left = c.left;
          few = omega (arith, c.few, length-renewed ssrc_of new ls);
          covers = λ s h. subst (λ (ss : List ℕ). (among s ss || among s c.left) ≡ true) same (c.covers s h);
        }

    -- it has none: it is among those left
    module _ (e : found_by ssrc_of ssrc ls ≡ None) where
      new_left : among ssrc c.left ≡ true
      new_left = rw (nowhere ssrc (map ssrc_of ls) (found_alike ssrc_of ssrc_of self (λ l. refl) ssrc ls ∙ ap (mapped ssrc_of) e)) at (c.covers ssrc in_List)

      added_covers : (t : Totals) → Covered ssrcs (added_by ssrc_of (record { ssrc = ssrc; totals = t }) ls)
      added_covers t = record {
        left = without ssrc c.left;
        few = omega (arith, c.few, length-added ssrc_of new ls, length_without ssrc c.left new_left);
        covers = λ s h. subst (λ (ss : List ℕ). (among s ss || among s (without ssrc c.left)) ≡ true) (added_alike ssrc_of ssrc_of self (λ l. refl) new ls)
            (ap (λ (b : Bool). b || among s (without ssrc c.left)) (among_added ssrc s (map ssrc_of ls)) ∙ go s (eqb ssrc s) refl (among s (map ssrc_of ls)) (c.covers s h));
      }
        where
          new : Line
          new = record { ssrc = ssrc; totals = t }

          go : (s : ℕ) (t : Bool) → eqb ssrc s ≡ t → (b : Bool) → (b || among s c.left) ≡ true → ((t || b) || among s (without ssrc c.left)) ≡ true
          go s true q b h = refl
          go s false q true h = refl
          go s false q false h = among_without ssrc s c.left q h

    settled_covers : (count : Totals → Totals) → Continues (settled by_value count ssrc ls)
    unfolding settled
    settled_covers count = go (found_by ssrc_of ssrc ls) refl
      where
        go : (found : Option Line) → found_by ssrc_of ssrc ls ≡ found → Continues (settled_by by_value count ssrc ls found)
        go None e = rw (lt-ltb (length ls) 16 (omega (arith, c.few, length_without ssrc c.left (new_left e)))) (added_covers e (count fresh_totals))
        go (Some l) e = renewed_covers (count l.totals)

  next_covers : (form : Form) (b : List ℕ) (n ssrc : ℕ) → block_of b ≡ Ok (read.Arrivals form n ssrc) → among ssrc ssrcs ≡ true → (ls : List Line) → Covered ssrcs ls
      → Continues (next_of by_value form b ls)
  unfolding next_of
  next_covers form b n ssrc is in_List ls c = rw (is, eq-eqb (shape_of form).label (shape_of form).label refl) (settled_covers ssrc in_List ls c (counted form n b))

  walk_covers : (i : ℕ) (bs : List (List ℕ)) (k : Kept) → OfSources k.form ssrcs bs → Covered ssrcs k.lines → (walk ecnstreams i bs k).ended ≡ None
  unfolding walk onward
  walk_covers i [] k o c = refl
  walk_covers i (b ∷ bs) k o c =
      go (next_of by_value k.form b k.lines) (next_covers k.form b o.0 o.1 o.2 o.3 k.lines c) (λ k. walk_covers (suc i) bs k)
    where
      go : (next : Next (List Line)) → Continues next → ((k : Kept) → OfSources k.form ssrcs bs → Covered ssrcs k.lines → (walk ecnstreams (suc i) bs k).ended ≡ None)
          → (onward (turned i (taken k next)) (walk ecnstreams (suc i) bs)).ended ≡ None
      go (goes ls) c later = later (record { form = k.form; label = k.label; lines = ls }) o.4 c
      go (refuses refusal) c later = absurd c

pub sixteen_suffice : SixteenSuffice
unfolding walked onward
sixteen_suffice trace ssrcs form n ssrc label o few =
    rw label (walk_covers ssrcs 1 (blocks_of trace).others _ o (record { left = ssrcs; few = omega arith; covers = λ s h. h }))
