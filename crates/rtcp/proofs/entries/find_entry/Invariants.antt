use Prim.Native.Nat.{◌+◌, ◌-◌, ◌*◌}
use mathlib.Core.Path.{◌≡◌}
use Rattle.rtcp.specs.Entries.{entry_for}
use Rattle.rtcp.proofs.entries.find_entry.Given as goal

abbrev pub invariant-loop-behind : goal.invariant-loop-behind
invariant-loop-behind l = l.place ≡ entry_for l.size l.behind l.b (l.from + l.size * (l.count - l.behind)) l.media
