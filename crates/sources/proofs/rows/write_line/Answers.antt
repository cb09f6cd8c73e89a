use native.Mathlib.Omega.{arith}
use Rattle.answers.proofs.Stores.{wrote_same}
use mathlib.Core.Path.{refl}
use Rattle.table.proofs.RowFits.{row_fits}
use Rattle.sources.proofs.rows.write_line.Goals as goal

pub returns : goal.returns
returns c =
    (wrote_same c.requires refl c.write_row.ensures, row_fits c.args.label.now c.args.ssrc c.args.totals (omega (arith, c.well_formed)) c.requires)
