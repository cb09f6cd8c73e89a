use Prim.Native.Nat.{◌-◌}
use native.Mathlib.Omega.{arith}
use lib.ListN.{length, drop, length-drop}
use Rattle.std.proofs.lemmas.List.{take_all}
use Rattle.sdp.proofs.Tokens.{token_while}
use Rattle.sdp.proofs.fronts.token_end.Goals as goal

pub returns : goal.returns
returns c =
    let s = c.args.line.now in
    let at = c.args.at in
    rw (c.token_length.ensures, take_all (length s - at) (drop at s) (omega (arith, length-drop at s)), token_while)
