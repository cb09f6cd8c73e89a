use mathlib.Core.Path.{◌≡◌, refl}
use native.Mathlib.Omega.{arith}
use lib.ListN.{length}
use Rattle.sdp.proofs.Texting.{length-mapped, text_whole, parms_room}
use Rattle.sdp.proofs.writer.text_of.Goals as goal

pub with_parms-requires : goal.with_parms-requires
with_parms-requires c =
    let l : length c.args.a.methods ≡ 8 = search length-mapped in
    parms_room c.args.a (omega (arith, c.with-name.ensures.long)) c.requires.0 c.requires.1 l c.with_methods-methods.ensures

pub returns : goal.returns
returns c =
    let l : length c.args.a.methods ≡ 8 = search length-mapped in
    let t = text_whole c.args.a refl c.requires.0 c.requires.1 l c.with-name.ensures c.with_methods-methods.ensures c.with_parms.ensures in
    record { numbered = t.0; counted = t.1 }
