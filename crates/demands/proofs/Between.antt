-- Two reports tell what came between. Assumes nothing.
use mathlib.Core.Path.{◌≡◌, ap, ◌∙◌}
use Prim.Native.Nat.{ℕ, ◌+◌, ◌%◌, ◌^◌, ◌<◌}
use native.Mathlib.Omega.{arith}
use lib.Dec.{le→leb, lt→ltb}
use lib.IntN.{pos, ◌-ℤ◌}
use lib.Signed.{◌≤ℤ◌, ◌<ℤ◌, le_z_yes, lt_z_yes}
use Rattle.numbers.specs.Since.{since}
use Rattle.numbers.proofs.Integers.{minus_pos}
use Rattle.numbers.proofs.Differences.{since_exact, signed_exact}
use Rattle.source.specs.Record.{lost}
use Rattle.source.proofs.Between.{grows_by_between}
use Rattle.report.specs.Carried.{counts_of}
use Rattle.demands.specs.Between.{TellsBetween}

-- a counter that has grown by n
grown : (width earlier : ℕ) {later n : ℕ} → later ≡ earlier + n → n < 2 ^ width → since width (later % 2 ^ width) (earlier % 2 ^ width) ≡ n
grown width earlier {later} {n} e h =
    let d : pos later -ℤ pos earlier ≡ pos n = minus_pos later earlier (omega arith) ∙ ap pos (omega arith) in
    let low : pos 0 ≤ℤ (pos later -ℤ pos earlier) = rw d (le_z_yes (le→leb 0 n (omega arith))) in
    let high : (pos later -ℤ pos earlier) <ℤ pos (2 ^ width) = rw d (lt_z_yes (lt→ltb n (2 ^ width) h)) in
    let exact = since_exact width (pos later) (pos earlier) low high ∙ d in
    cc

pub tells_between : TellsBetween
unfolding counts_of
tells_between s t ps l =
    let g = grows_by_between s t ps l in
    record {
      ect0 = grown 32 s.ect0 g.ect0;
      ect1 = grown 32 s.ect1 g.ect1;
      ce = grown 16 s.ce g.ce;
      notect = grown 16 s.notect g.notect;
      duplicates = grown 16 s.duplicates g.duplicates;
      lost = λ low high. signed_exact 15 (lost t) (lost s) (rw g.lost low) (rw g.lost high) ∙ g.lost;
    }
