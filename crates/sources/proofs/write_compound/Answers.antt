use Rattle.sources.proofs.Loaded.{compound_back}
use Rattle.sources.proofs.write_compound.Goals as goal

pub returns : goal.returns
returns c =
    let a = c.args in
    compound_back a.places.now a.sender a.out.now c.load-t.result c.load-t.ensures c.write_compound.ensures
