-- A part counted record by record in few words (document 02, L8). For the contracts of private functions alone: proofs/Simulated says that this is `arrival`.
use Rattle.format.specs.declared.Wire.{Wire}
use Rattle.std.specs.Prelude.{ℕ, ◌+◌, ◌-◌, ◌*◌, ◌/◌, ◌%◌, ◌^◌, ◌≤◌, ◌<◌, ◌≡◌, true, cond, List, [], ◌∷◌, eqb, pos, nat_abs, length, Option, Some, None}
use Rattle.source.specs.declared.History.{History}
use Rattle.source.specs.declared.Source.{Source}
use Rattle.source.specs.declared.BlockCount.TheVariants.{Counted}
use Rattle.source.specs.declared.distances.Reach.{Reach}
use Rattle.source.specs.declared.distances.Reach.TheVariants as reach
use Rattle.source.specs.Places.{bit, history, marks, moved, added}
use Rattle.source.specs.Distances.{reach_of}
use Rattle.source.specs.Record.{arrivals, sound}
use Rattle.source.specs.Arrivals.{extended}
use Rattle.source.specs.Blocks.{Packet, count_all}
use Rattle.engine.specs.declared.lean.Lean.{Lean}
use Rattle.engine.specs.declared.runs.Run.{Run}

-- byte k of a number, counted from the lowest
abbrev pub byte : ℕ → ℕ → ℕ
byte k n = n / 256 ^ k % 256

-- a state with room for n arrivals more
pub record LeanFits (n : ℕ) (t : Lean) : Type 0 where
  pub base : t.base ≤ 65535
  pub near : t.highest + n * 65536 < 2 ^ 63
  pub fits : t.history.older < 2 ^ 36
  pub awaited : t.awaited ≤ 65536
  pub room : t.counts + n * 2 ^ 49 < 2 ^ 60

-- ---- a record as a state, and back

-- the remembered number, 65,536 for none
abbrev pub awaited_in : Option Wire → ℕ
awaited_in None = 65536
awaited_in (Some wire) = wire.0

unfoldable pub remembered_as : ℕ → Option Wire
remembered_as n = cond (eqb n 65536) None (Some (record { 0 = n }))

-- before a part
abbrev pub begun : Source → Lean
begun s = record { base = nat_abs s.base.0; highest = nat_abs s.highest.0; history = s.history; awaited = awaited_in s.remembered; counts = 0 }

-- a counter that the part began with, until a restart
unfoldable pub still_counted : ℕ → ℕ → ℕ
still_counted counts n = cond (eqb (byte 6 counts) 0) n 0

-- the record that a state stands for, in a part begun with s: the counts are of jumps, duplicates, the marks 0 to 3, restarts
unfoldable pub restored : Source → Lean → Source
restored s t = record {
  base = extended (pos t.base);
  highest = extended (pos t.highest);
  notect = still_counted t.counts s.notect + byte 2 t.counts;
  ect1 = still_counted t.counts s.ect1 + byte 3 t.counts;
  ect0 = still_counted t.counts s.ect0 + byte 4 t.counts;
  ce = still_counted t.counts s.ce + byte 5 t.counts;
  duplicates = still_counted t.counts s.duplicates + byte 1 t.counts;
  history = t.history;
  remembered = remembered_as t.awaited;
}

-- ---- one arrival

-- one in the byte of a mark
abbrev pub unit : ℕ → ℕ
unit mark = 256 ^ (2 + mark)

-- one arrival more, with what it adds to the counts
abbrev pub raised : Lean → ℕ → History → ℕ → Lean
raised t highest past units = record { base = t.base; highest = highest; history = past; awaited = 65536; counts = t.counts + units }

unfoldable pub ahead : Lean → ℕ → ℕ → Lean
ahead t d mark = raised t (t.highest + d) (history (added 0 (moved d (marks t.history)))) (unit mark)

unfoldable pub behind : Lean → ℕ → ℕ → Lean
behind t k mark = raised t t.highest (history (added k (marks t.history))) (unit mark + bit (marks t.history k) * 256)

-- the counts of jumps and restarts alone
abbrev pub cleared : ℕ → ℕ
cleared counts = counts % 256 + counts / 256 ^ 6 * 256 ^ 6

unfoldable pub restarted : Lean → ℕ → ℕ → Lean
restarted t number mark = record {
  base = number;
  highest = number;
  history = history (λ k. eqb k 0);
  awaited = 65536;
  counts = cleared t.counts + 256 ^ 6 + unit mark;
}

-- left out, and the number that would follow it remembered
abbrev pub skipped : Lean → ℕ → Lean
skipped t number = record { base = t.base; highest = t.highest; history = t.history; awaited = (number + 1) % 65536; counts = t.counts + 1 }

unfoldable pub jumped : Lean → ℕ → ℕ → Lean
jumped t number mark = cond (eqb number t.awaited) (restarted t number mark) (skipped t number)

-- by where the arrival stands, as source's `later_by`
abbrev pub TakenBy : Lean → ℕ → ℕ → Reach → Lean
TakenBy t number mark (reach.Ahead d) = ahead t d mark
TakenBy t number mark (reach.Behind k) = behind t k mark
TakenBy t number mark reach.Jump = jumped t number mark

-- the number minus the highest, modulo 65,536
abbrev pub above : ℕ → ℕ → ℕ
above highest number = (number + 65536 - highest % 65536) % 65536

unfoldable pub taken : Lean → ℕ → ℕ → Lean
taken t number mark = TakenBy t number mark (reach_of (above t.highest number))

-- ---- a part

-- packets taken in order
unfoldable pub taken_all : List Packet → Lean → Lean
taken_all [] t = t
taken_all (p ∷ ps) t = taken_all ps (taken t p.wire.0 p.mark)

-- the record behind packets: no more arrivals, jumps or restarts are counted than there are packets
pub record Behind (s : Source) (ps : List Packet) (t : Source) (jumps restarts : ℕ) : Type 0 where
  pub same : count_all ps s 0 0 ≡ Counted t jumps restarts
  pub good : sound t ≡ true
  pub some : 1 ≤ arrivals t
  pub more : arrivals t ≤ arrivals s + length ps
  pub few_jumps : jumps ≤ length ps
  pub few_restarts : restarts ≤ length ps

abbrev pub RunOf : Source → List Packet → Run → Type 0
RunOf s ps r = Behind s ps r.source r.jumps r.restarts
