-- A record that has counted, after packets that all lie in its window, in whatever order: a union of places, and sums.
use Rattle.format.specs.declared.Wire.{Wire}
use Rattle.std.specs.Prelude.{ℕ, ◌+◌, ◌-◌, ◌%◌, ◌^◌, ◌≤◌, ◌≡◌, Bool, true, false, ◌||◌, List, [], ◌∷◌, eqb, pos, nat_abs, ◌+ℤ◌, length, Option, None}
use Rattle.std.specs.Int.Bits.{bit_or}
use Rattle.std.specs.Int.Count.{ones, count_trailing_zeros}
use Rattle.source.specs.declared.Source.{Source}
use Rattle.source.specs.declared.History.{History}
use Rattle.source.specs.Places.{bit, place, pack, history, marks, moved}
use Rattle.source.specs.Record.{arrivals, sound}
use Rattle.source.specs.Arrivals.{extended}
use Rattle.source.specs.Blocks.{Packet, marks_fit}
use Rattle.engine.specs.declared.scans.Scan.{Scan}
use Rattle.engine.specs.declared.shifts.Shifted.{Shifted}
use Rattle.engine.specs.declared.stretches.Part.{Part}
use Rattle.engine.specs.declared.stretches.Part.TheVariants as part
use Rattle.engine.specs.Windows.{lead, within, hits, least}

-- a value of each packet's mark, added up
unfoldable pub total : (ℕ → ℕ) → List Packet → ℕ
total f [] = 0
total f (p ∷ ps) = f p.mark + total f ps

-- how many packets have a mark
abbrev pub numbered : ℕ → List Packet → ℕ
numbered mark ps = total (λ t. bit (eqb t mark)) ps

-- the row moved up by d places, with the places of the packets, of which place e is now place 0
abbrev pub joined : ℕ → ℕ → ℕ → List Packet → (ℕ → Bool) → ℕ → Bool
joined top d e ps row k = moved d row k || hits top ps (e + k)

-- any packet forgets the remembered number
abbrev pub forgotten : List Packet → Option Wire → Option Wire
forgotten [] remembered = remembered
forgotten (p ∷ ps) remembered = None

-- the record after the packets, where its highest number lies at place a: it grows to the least place; a packet is a duplicate unless it marks a
-- place more
unfoldable pub settled_at : ℕ → ℕ → ℕ → Source → List Packet → Source
settled_at top a e s ps = record {
  base = s.base;
  highest = extended (s.highest.0 +ℤ pos (a - e));
  notect = s.notect + numbered 0 ps;
  ect1 = s.ect1 + numbered 1 ps;
  ect0 = s.ect0 + numbered 2 ps;
  ce = s.ce + numbered 3 ps;
  duplicates = s.duplicates + (length ps + ones (pack 64 (moved (a - e) (marks s.history))) - ones (pack 64 (joined top (a - e) e ps (marks s.history))));
  history = history (joined top (a - e) e ps (marks s.history));
  remembered = forgotten ps s.remembered;
}

abbrev pub settled : ℕ → ℕ → Source → List Packet → Source
settled top a s ps = settled_at top a (least top a ps) s ps

-- ---- what the functions answer

-- the place of the highest number in a window's bits, where it was at place 40
abbrev pub lowest : ℕ → ℕ
lowest bits = count_trailing_zeros 64 (bit_or bits (2 ^ lead))

-- the row moved on, with the bits
abbrev pub row_with : ℕ → History → ℕ → Bool
row_with bits h k = moved (lead - lowest bits) (marks h) k || place bits (lowest bits + k)

-- a history moved on by the bits
pub record ShiftedBy (h : History) (bits : ℕ) (r : Shifted) : Type 0 where
  pub up : r.up ≡ lead - lowest bits
  pub history : r.history ≡ history (row_with bits h)
  pub more : r.more ≡ ones (pack 64 (row_with bits h)) - ones (pack 64 (moved (lead - lowest bits) (marks h)))

-- the record with the packets of a scan and a history moved on
abbrev pub scanned_onto : Source → ℕ → Scan → Shifted → Source
scanned_onto s n scan shifted = record {
  base = s.base;
  highest = extended (s.highest.0 +ℤ pos shifted.up);
  notect = s.notect + scan.notect;
  ect1 = s.ect1 + scan.ect1;
  ect0 = s.ect0 + scan.ect0;
  ce = s.ce + scan.ce;
  duplicates = s.duplicates + (n - shifted.more);
  history = shifted.history;
  remembered = None;
}

-- the top of a record's window, modulo 65,536
abbrev pub top_of : Source → ℕ
top_of s = nat_abs s.highest.0 % 65536 + lead

-- what an answer to a part says: the record behind the packets, all of which lie in its window; that a mark is above 3; or that none is, but some number
-- lies outside the window, and nothing is counted
abbrev pub PartIs : Source → List Packet → Part → Type 0
PartIs s ps (part.Counted t) = (marks_fit ps ≡ true) × (within (top_of s) ps ≡ true) × (t ≡ settled (top_of s) lead s ps)
PartIs s ps part.Misfit = marks_fit ps ≡ false
PartIs s ps (part.Outside ordered) = (marks_fit ps ≡ true) × (within (top_of s) ps ≡ false)

-- a record that has counted and can count n arrivals more
pub record Roomy (s : Source) (n : ℕ) : Type 0 where
  pub good : sound s ≡ true
  pub some : 1 ≤ arrivals s
  pub room : arrivals s + n ≤ 2 ^ 48

-- and what is to be added to it
pub record Added (s : Source) (n : ℕ) (scan : Scan) (shifted : Shifted) : Type 0 where
  pub roomy : Roomy s n
  pub few : n ≤ 31
  pub marks : scan.notect + scan.ect1 + scan.ect0 + scan.ce ≡ n
  pub up : shifted.up ≤ lead
  pub more : shifted.more ≤ n
