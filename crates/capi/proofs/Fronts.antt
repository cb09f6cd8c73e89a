-- Words stored at the front of lent words that are as many. Assumes nothing.
use mathlib.Core.Path.{◌≡◌, ap, ◌∙◌}
use mathlib.Core.List.{List, ◌++◌, append-nil}
use Prim.Native.Nat.{ℕ, ◌≤◌}
use native.Mathlib.Omega.{arith}
use lib.ListN.{length, drop_of_length-le}
use lib.Seq.{sets}
use Rattle.answers.proofs.Stores.{sets-front}

pub sets-whole : (old new : List ℕ) → length old ≡ length new → sets old 0 new ≡ new
sets-whole old new h =
    let k : length old ≤ length new = omega arith in
    sets-front old new (omega arith) ∙ ap (λ (t : List ℕ). new ++ t) (drop_of_length-le old k) ∙ append-nil new
