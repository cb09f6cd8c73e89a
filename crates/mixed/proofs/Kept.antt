-- A block keeps the lines good, and at most 16. Assumes nothing.
use Rattle.std.specs.Prelude.{Option, Some, None, Result, Ok, Err}
use Rattle.answers.specs.declared.Refusal.{Refusal}
use mathlib.Core.Path.{◌≡◌, refl, ap}
use mathlib.Core.Bool.{Bool, true, false, cond}
use mathlib.Core.List.{List, [], ◌∷◌}
use Prim.Native.Nat.{ℕ, suc, ◌+◌, ◌*◌, ◌/◌, ◌^◌, ◌≤◌, ◌<◌}
use native.Mathlib.Omega.{arith}
use borrow.Author.Tests.{ltb-true}
use lib.Dec.{eqb, ltb}
use lib.ListN.{length, take, drop}
use Rattle.answers.specs.declared.Refusal.TheVariants.{Contents, Places}
use Rattle.numbers.proofs.BigEndian.{Octets, word_lt}
use Rattle.format.specs.Blocks.{body_at}
use Rattle.format.specs.Forms.{shape_of, width, same_form}
use Rattle.format.specs.declared.Form.{Form}
use Rattle.source.specs.declared.BlockCount.{BlockCount}
use Rattle.source.specs.declared.BlockCount.TheVariants.{Counted, Refused}
use Rattle.source.specs.declared.Source.{Source}
use Rattle.source.specs.declared.Totals.{Totals}
use Rattle.source.specs.Record.{wire_number}
use Rattle.source.specs.Arrivals.{arrival, after}
use Rattle.source.specs.Blocks.{Packet, packets, jump, restart, count_all, block_count}
use Rattle.source.specs.Totals.{fresh_totals, with_block}
use Rattle.source.proofs.Afresh.{typed_stays}
use Rattle.source.proofs.Totalled.{fresh_totals_lem, block_counted, next_sound}
use Rattle.trace.specs.Reading.{block_of}
use Rattle.trace.specs.declared.Block.{Block}
use Rattle.trace.specs.declared.Block.TheVariants as read
use Rattle.trace.proofs.Accepted.{accepted}
use Rattle.numbers.proofs.Octets.{octets_take, octets_drop}
use Rattle.walk.specs.Steps.{Next, goes, refuses}
use Rattle.mixed.specs.declared.Line.{Line}
use Rattle.mixed.specs.Places.{found_by, renewed_by, added_by}
use Rattle.mixed.specs.Lines.{by_value}
use Rattle.mixed.specs.Blocks.{counted, settled_by, settled, next_by, next_of}
use Rattle.mixed.proofs.Restored.{Good}
use Rattle.mixed.proofs.Standing.{length-added}

-- ---- what holds of each line holds of each line behind a block

module _ {A : Type 0} (P : A → Type 0) where
  abbrev pub Each : List A → Type 0
  Each [] = Unit {0}
  Each (l ∷ ls) = P l × Each ls

  module _ (ssrc_of : A → ℕ) where
    pub found_each : (ssrc : ℕ) (ls : List A) {l : A} → Each ls → found_by ssrc_of ssrc ls ≡ Some l → P l
    unfolding found_by
    found_each ssrc [] h e = let z : ◌≡◌ {A = ℕ} 0 1 = cc in absurd (omega arith)
    found_each ssrc (m ∷ ls) {l} h e = go (eqb (ssrc_of m) ssrc) e (found_each ssrc ls h.1)
      where
        go : (t : Bool) → cond t (Some m) (found_by ssrc_of ssrc ls) ≡ Some l → (found_by ssrc_of ssrc ls ≡ Some l → P l) → P l
        go true e more = let same : m ≡ l = cc in rw same at h.0
        go false e more = more e

    pub renewed_each : (new : A) (ls : List A) → P new → Each ls → Each (renewed_by ssrc_of new ls)
    unfolding renewed_by
    renewed_each new [] n h = tt
    renewed_each new (l ∷ ls) n h = go (eqb (ssrc_of l) (ssrc_of new)) (renewed_each new ls n h.1)
      where
        go : (t : Bool) → Each (renewed_by ssrc_of new ls) → Each (cond t (new ∷ ls) (l ∷ renewed_by ssrc_of new ls))
        go true more = (n, h.1)
        go false more = (h.0, more)

    pub added_each : (new : A) (ls : List A) → P new → Each ls → Each (added_by ssrc_of new ls)
    unfolding added_by
    added_each new [] n h = (n, tt)
    added_each new (l ∷ ls) n h = go (ltb (ssrc_of l) (ssrc_of new)) (added_each new ls n h.1)
      where
        go : (t : Bool) → Each (added_by ssrc_of new ls) → Each (cond t (l ∷ added_by ssrc_of new ls) (new ∷ l ∷ ls))
        go true more = (h.0, more)
        go false more = (n, h)

module _ {A : Type 0} (ssrc_of : A → ℕ) (new : A) where
  pub length-renewed : (ls : List A) → length (renewed_by ssrc_of new ls) ≡ length ls
  unfolding renewed_by
  length-renewed [] = refl
  length-renewed (l ∷ ls) = go (eqb (ssrc_of l) (ssrc_of new)) (length-renewed ls)
    where
      go : (t : Bool) → length (renewed_by ssrc_of new ls) ≡ length ls → length (cond t (new ∷ ls) (l ∷ renewed_by ssrc_of new ls)) ≡ suc (length ls)
      go true e = refl
      go false e = ap suc e

-- ---- totals

all_typed : (ps : List Packet) (s : Source) (jumps restarts : ℕ) {next : Source} {j r : ℕ}
    → wire_number s.remembered ≡ true → count_all ps s jumps restarts ≡ Counted next j r → wire_number next.remembered ≡ true
unfolding count_all
all_typed [] s jumps restarts {next} w e = let same : s ≡ next = cc in rw same at w
all_typed (p ∷ ps) s jumps restarts w e =
    let a = arrival s p.wire p.mark in
    all_typed ps (after a) (jumps + jump a) (restarts + restart a) (typed_stays s p.wire p.mark w) e

pub fresh_good : Good fresh_totals
fresh_good = record { sound = fresh_totals_lem; number = refl }

pub counted_good : (form : Form) (n : ℕ) (b : List ℕ) (t : Totals) → Octets b → Good t → Good (counted form n b t)
unfolding counted
counted_good form n b t o g = go (block_count t.source w bytes) refl
  where
    w : ℕ
    w = width (shape_of form)

    bytes : List ℕ
    bytes = take (n * w) (drop body_at b)

    go : (c : BlockCount) → block_count t.source w bytes ≡ c → Good (with_block t c)
    go (Counted next jumps restarts) e = record {
      sound = record {
        good = next_sound t.source w bytes e (octets_take (n * w) (drop body_at b) (octets_drop body_at b o));
        jumped = omega arith;
        restarts = omega arith;
      };
      number = all_typed (packets w (length bytes / w) bytes) t.source 0 0 g.number (block_counted t.source w bytes e).is;
    }
    go (Refused refusal same) e = g

-- ---- lines

-- an SSRC of 32 bits
pub record GoodLine (l : Line) : Type 0 where
  pub ssrc : l.ssrc < 2 ^ 32
  pub totals : Good l.totals

-- the lines that a block gives are good, and at most 16
abbrev pub Keeps : Next (List Line) → Type 0
Keeps (goes ls) = Each GoodLine ls × (length ls ≤ 16)
Keeps (refuses refusal) = Unit {0}

module _ (count : Totals → Totals) (keeps : (t : Totals) → Good t → Good (count t)) (ssrc : ℕ) (wide : ssrc < 2 ^ 32) (ls : List Line) (g : Each GoodLine ls) (few : length ls ≤ 16) where
  settled_keeps : Keeps (settled by_value count ssrc ls)
  unfolding settled
  settled_keeps = go (found_by (λ l. l.ssrc) ssrc ls) refl
    where
      with_room : (t : Bool) → ltb (length ls) 16 ≡ t → Keeps (cond t (goes (added_by (λ l. l.ssrc) (record { ssrc = ssrc; totals = count fresh_totals }) ls)) (refuses Places))
      with_room true e =
          let new : Line = record { ssrc = ssrc; totals = count fresh_totals } in
          let less = ltb-true (length ls) 16 e in (
            added_each GoodLine (λ l. l.ssrc) new ls (record { ssrc = wide; totals = keeps fresh_totals fresh_good }) g,
            omega (arith, length-added (λ (l : Line). l.ssrc) new ls),
          )
      with_room false e = tt

      go : (found : Option Line) → found_by (λ l. l.ssrc) ssrc ls ≡ found → Keeps (settled_by by_value count ssrc ls found)
      go None e = with_room (ltb (length ls) 16) refl
      go (Some l) e =
          let new : Line = record { ssrc = ssrc; totals = count l.totals } in (
            renewed_each GoodLine (λ l. l.ssrc) new ls (record { ssrc = wide; totals = keeps l.totals (found_each GoodLine (λ l. l.ssrc) ssrc ls g e).totals }) g,
            omega (arith, length-renewed (λ (l : Line). l.ssrc) new ls),
          )

pub next_keeps : (form : Form) (b : List ℕ) (ls : List Line) → Octets b → Each GoodLine ls → length ls ≤ 16 → Keeps (next_of by_value form b ls)
unfolding next_of
next_keeps own b ls o g few = go (block_of b) refl
  where
    chosen : (t : Bool) (n ssrc : ℕ) → ssrc < 2 ^ 32 → Keeps (cond t (settled by_value (counted own n b) ssrc ls) (refuses Contents))
    chosen true n ssrc wide = settled_keeps (counted own n b) (λ t h. counted_good own n b t o h) ssrc wide ls g few
    chosen false n ssrc wide = tt

    go : (r : Result Block Refusal) → block_of b ≡ r → Keeps (next_by by_value own b ls r)
    go (Ok (read.Arrivals form n ssrc)) e = chosen (same_form form own) n ssrc (omega (arith, (accepted b e).block.its_ssrc, word_lt b 4 4 o))
    go (Ok (read.Label form n ssrc)) e = tt
    go (Err refusal) e = tt
