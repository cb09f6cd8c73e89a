-- The hypotheses of the theorems on what comes between two records, and on restarts, are met, and each theorem at these values. Assumes nothing.
use mathlib.Core.Path.{refl}
use native.Mathlib.Omega.{arith}
use lib.Count.{ones}
use lib.Signed.{le_z_yes, lt_z_yes}
use Rattle.answers.specs.declared.Refusal.TheVariants.{Jump}
use Rattle.source.specs.Record.{sound, fresh, has_counted, fresh_record}
use Rattle.source.specs.Arrivals.{arrival, first, counted, distance, ahead, behind, jumped, remembering}
use Rattle.source.specs.Blocks.{count_all}
use Rattle.source.specs.Between.{came, expected}
use Rattle.source.specs.Distances.{reach_of}
use Rattle.source.specs.Places.{pack, marks, place, places, moved, added}
use Rattle.source.proofs.Afresh.{typed_stays, restarts_afresh, second_restarts, refusal_keeps}
use Rattle.source.proofs.Between.{grows_by_between}
use Rattle.demands.specs.WitnessesBetween.{wire, onward, earlier, later, MetBetween}
use Rattle.demands.proofs.Between.{tells_between}

pub met_between : MetBetween
unfolding sound fresh has_counted count_all arrival first counted distance reach_of ahead behind jumped remembering pack marks place moved added places ones came expected
met_between = record {
  c1_leads = record { jumps = 0; run = refl };
  leads = record { jumps = 1; run = refl };
  notect = refl;
  ect1 = refl;
  ect0 = refl;
  ce = refl;
  duplicates = refl;
  lost = refl;
  tellable = record { few_marked = omega arith; some_expected = le_z_yes tt; few_expected = lt_z_yes tt; some_lost = le_z_yes tt; few_lost = lt_z_yes tt };
  jumps = refl;
  far = refl;
  typed = refl;
  restarts = refl;
}

used : Unit {0}
used =
    let m = met_between in
    let grown = grows_by_between earlier later onward m.leads in
    let base = grown.base (omega arith) in
    let highest = grown.highest (omega arith) in
    let told = tells_between earlier later onward m.leads in
    let notect = told.notect (omega arith) in
    let ect1 = told.ect1 (omega arith) in
    let ect0 = told.ect0 (omega arith) in
    let ce = told.ce (omega arith) in
    let duplicates = told.duplicates (omega arith) in
    let lost = told.lost (rw m.lost (le_z_yes tt)) (rw m.lost (lt_z_yes tt)) in
    let keeps = refusal_keeps earlier (remembering earlier (wire 30001)) (wire 30000) 2 Jump m.jumps in
    let second = second_restarts earlier (remembering earlier (wire 30001)) (wire 30000) 2 3 m.jumps m.far (omega arith) in
    let typed = typed_stays (remembering earlier (wire 30001)) (wire 30001) 3 m.typed in
    let afresh = restarts_afresh (remembering earlier (wire 30001)) (first fresh_record (wire 30001) 3) (wire 30001) 3 m.restarts in
    tt
