-- Lines as places of a table, and a block's arrivals counted for either. Assumes nothing.
use Rattle.std.specs.Prelude.{Option, Some, None, Ok}
use mathlib.Core.Path.{◌≡◌, refl, sym, ap, ◌∙◌}
use mathlib.Core.Bool.{Bool, true, false, cond}
use mathlib.Core.List.{List, [], ◌∷◌, map}
use Prim.Native.Nat.{ℕ, ◌+◌, ◌*◌, ◌/◌, ◌%◌, ◌≤◌}
use native.Mathlib.Omega.{arith}
use borrow.Author.Tests.{eqb-true, ltb-true, ltb-false, le-leb, eq-eqb}
use lib.Dec.{eqb, ltb}
use lib.ListN.{length, take, drop}
use Rattle.answers.specs.Conditions.{all}
use Rattle.format.specs.Blocks.{body_at}
use Rattle.format.specs.Forms.{shape_of, width}
use Rattle.format.specs.declared.Form.{Form}
use Rattle.source.specs.declared.BlockCount.{BlockCount}
use Rattle.source.specs.declared.BlockCount.TheVariants as block
use Rattle.source.specs.declared.Source.{Source}
use Rattle.source.specs.declared.Totals.{Totals}
use Rattle.source.specs.Record.{arrivals, sound}
use Rattle.source.specs.Blocks.{packets, in_limits, block_count}
use Rattle.source.proofs.Packets.{Limits}
use Rattle.source.proofs.Totalled.{length-packets, block_counted}
use Rattle.trace.specs.Layout.{body_of}
use Rattle.trace.specs.Reading.{block_of}
use Rattle.trace.specs.Theorems.{records_in}
use Rattle.trace.specs.declared.Block.TheVariants as read
use Rattle.sources.specs.declared.Place.{Place}
use Rattle.sources.specs.Rules.{rising}
use Rattle.sources.specs.Stands.{found, put}
use Rattle.sources.specs.Answers.{outside, behind}
use Rattle.sources.proofs.Calling.{never_refused}
use Rattle.sources.proofs.Found.{rising_rest, below_none}
use Rattle.sources.proofs.Grown.{block_grown}
use Rattle.mixed.specs.declared.Line.{Line}
use Rattle.mixed.specs.Places.{found_by, renewed_by, added_by}
use Rattle.mixed.specs.Blocks.{counted}
use Rattle.demands.specs.PrintedTable.{in_record}
use Rattle.demands.specs.LinesAreTable.{place_of}
use Rattle.demands.proofs.Traces.{records_counted}

-- ---- lines as places

abbrev pub ssrc_of : Line → ℕ
ssrc_of l = l.ssrc

abbrev pub source_in : Option Line → Option Source
source_in None = None
source_in (Some l) = Some l.totals.source

pub found_as_lem : (ssrc : ℕ) (ls : List Line) → found ssrc (map place_of ls) ≡ source_in (found_by ssrc_of ssrc ls)
unfolding found found_by
found_as_lem ssrc [] = refl
found_as_lem ssrc (l ∷ ls) = go (eqb l.ssrc ssrc) (found_as_lem ssrc ls)
  where
    go : (t : Bool) → found ssrc (map place_of ls) ≡ source_in (found_by ssrc_of ssrc ls)
        → cond t (Some l.totals.source) (found ssrc (map place_of ls)) ≡ source_in (cond t (Some l) (found_by ssrc_of ssrc ls))
    go true e = refl
    go false e = e

-- a new SSRC is put where the line is added
pub put_added : (new : Line) (ls : List Line) → found_by ssrc_of new.ssrc ls ≡ None → put (place_of new) (map place_of ls) ≡ map place_of (added_by ssrc_of new ls)
unfolding put added_by found_by
put_added new [] e = refl
put_added new (l ∷ ls) e = go (ltb l.ssrc new.ssrc) (eqb l.ssrc new.ssrc) (put_added new ls) e
  where
    go : (a b : Bool) → (found_by ssrc_of new.ssrc ls ≡ None → put (place_of new) (map place_of ls) ≡ map place_of (added_by ssrc_of new ls))
        → cond b (Some l) (found_by ssrc_of new.ssrc ls) ≡ None
        → cond a (place_of l ∷ put (place_of new) (map place_of ls)) (place_of new ∷ cond b (map place_of ls) (place_of l ∷ map place_of ls)) ≡ map place_of (cond a (l ∷ added_by ssrc_of new ls) (new ∷ l ∷ ls))
    go a true more e = let z : ◌≡◌ {A = ℕ} 0 1 = cc in absurd (omega arith)
    go true false more e = ap (λ (ps : List Place). place_of l ∷ ps) (more e)
    go false false more e = refl

-- and one that is held where the line is renewed
pub put_renewed : (new : Line) (ls : List Line) (least : ℕ) {l : Line} → rising least (map place_of ls) ≡ true → found_by ssrc_of new.ssrc ls ≡ Some l
    → put (place_of new) (map place_of ls) ≡ map place_of (renewed_by ssrc_of new ls)
unfolding put renewed_by found_by
put_renewed new [] least r e = let z : ◌≡◌ {A = ℕ} 0 1 = cc in absurd (omega arith)
put_renewed new (m ∷ ls) least {l} r e =
    let rest = rising_rest least (place_of m) (map place_of ls) r in
    go (eqb m.ssrc new.ssrc) refl (ltb m.ssrc new.ssrc) refl (put_renewed new ls (m.ssrc + 1) rest) rest e
  where
    go : (a : Bool) → eqb m.ssrc new.ssrc ≡ a → (b : Bool) → ltb m.ssrc new.ssrc ≡ b
        → (found_by ssrc_of new.ssrc ls ≡ Some l → put (place_of new) (map place_of ls) ≡ map place_of (renewed_by ssrc_of new ls))
        → rising (m.ssrc + 1) (map place_of ls) ≡ true → cond a (Some m) (found_by ssrc_of new.ssrc ls) ≡ Some l
        → cond b (place_of m ∷ put (place_of new) (map place_of ls)) (place_of new ∷ cond a (map place_of ls) (place_of m ∷ map place_of ls)) ≡ map place_of (cond a (new ∷ ls) (m ∷ renewed_by ssrc_of new ls))
    go true ha true hb more r e = absurd (let x = eqb-true m.ssrc new.ssrc ha in let y = ltb-true m.ssrc new.ssrc hb in omega arith)
    go true ha false hb more r e = refl
    go false ha true hb more r e = ap (λ (ps : List Place). place_of m ∷ ps) (more e)
    go false ha false hb more r e =
        let above = ltb-false m.ssrc new.ssrc hb in
        let gone : source_in (Some l) ≡ None = ap source_in (sym e) ∙ sym (found_as_lem new.ssrc ls) ∙ below_none new.ssrc (m.ssrc + 1) (map place_of ls) (omega arith) r in
        let z : ◌≡◌ {A = ℕ} 0 1 = cc in
        absurd (omega arith)

-- ---- the arrivals of a block

in_limits_lem : (w : ℕ) (s : List ℕ) → Limits w s → all (in_limits w s) ≡ true
in_limits_lem w s l = rw (le-leb 4 w l.wide, eq-eqb (length s % w) 0 l.whole, le-leb 1 (length s / w) l.some, le-leb (length s / w) 62 l.few, l.fit)

module _ (b : List ℕ) (form : Form) (n ssrc : ℕ) (is : block_of b ≡ Ok (read.Arrivals form n ssrc)) where
  abbrev pub w : ℕ
  w = width (shape_of form)

  abbrev pub bytes : List ℕ
  bytes = take (n * w) (drop body_at b)

  -- counted on sound totals: nothing is refused, and something is counted
  pub record Counts (t : Totals) : Type 0 where
    pub inside : outside w bytes ≡ false
    pub grown : 1 ≤ arrivals (behind (block_count t.source w bytes))
    pub same : (counted form n b t).source ≡ behind (block_count t.source w bytes)

  pub counts : (t : Totals) → sound t.source ≡ true → Counts t
  unfolding counted
  counts t g = go (block_count t.source w bytes) refl
    where
      go : (c : BlockCount) → block_count t.source w bytes ≡ c → Counts t
      go (block.Counted s jumps restarts) e =
          let c = block_counted t.source w bytes e in
          let ps = packets w (length bytes / w) bytes in
          let many : 1 ≤ length ps = omega (arith, length-packets w (length bytes / w) bytes, c.within.some) in
          record {
            inside = rw (in_limits_lem w bytes c.within);
            grown = rw e (block_grown ps t.source g many c.within.fit c.is);
            same = rw e;
          }
      go (block.Refused r s) e = absurd (never_refused (map in_record (records_in (shape_of form) n (body_of b))) t.source 0 0 (sym (records_counted b form n ssrc is t.source g) ∙ e))
