-- The hypotheses of the theorems on a table of several sources are met, and each theorem at these values. Assumes nothing.
use mathlib.Core.Path.{refl}
use mathlib.Core.List.{[], ◌++◌}
use native.Mathlib.Omega.{arith}
use lib.Count.{ones}
use Rattle.numbers.specs.BigEndian.{word}
use Rattle.source.specs.Arrivals.{arrival, first, counted, distance, ahead, behind, jumped, remembering}
use Rattle.source.specs.Blocks.{packets, count_all, block_count}
use Rattle.source.specs.Distances.{reach_of}
use Rattle.source.specs.Places.{pack, marks, place, places, moved, added}
use Rattle.source.specs.Record.{sound, fresh, has_counted}
use Rattle.rtcp.specs.declared.Profile.{Profile}
use Rattle.trace.specs.Contents.{every}
use Rattle.trace.proofs.Limits.{below}
use Rattle.sources.specs.Places.{held_of, rest_of}
use Rattle.sources.specs.Rules.{rising, fault}
use Rattle.sources.specs.Stands.{stands_at, found, put, with_place}
use Rattle.sources.specs.Answers.{refusal, arrive_answer, arrive_places, count_answer, count_places}
use Rattle.sources.specs.Witnesses.{some_table, some_bytes}
use Rattle.demands.specs.EachSource.{Brings}
use Rattle.demands.specs.Witnesses.{wrapped, reordered}
use Rattle.demands.specs.WitnessesSources.{one_record, mixed_calls, one_place, one_block, MetSources}
use Rattle.demands.proofs.ReadBack.{compound_reads_back}
use Rattle.demands.proofs.EachSource.{each_source}
use Rattle.demands.proofs.Witnesses.{met}

mixed : Brings some_table mixed_calls 3 wrapped
unfolding fault rising held_of rest_of stands_at found put with_place refusal arrive_answer arrive_places count_answer count_places sound fresh has_counted arrival first counted distance reach_of ahead behind jumped remembering pack marks place moved added places ones word packets count_all block_count every
mixed = record {
  good = refl;
  new = refl;
  ssrcs = refl;
  fit = (
    (omega arith, omega arith),
    (
      (omega arith, below 256 some_bytes (omega arith) refl),
      (
        (omega arith, omega arith),
        (
          (omega arith, omega arith),
          (
            (omega arith, omega arith),
            (
              (omega arith, below 256 [] (omega arith) refl),
              ((omega arith, below 256 (one_record 255 161 0 ++ one_record 0 4 3) (omega arith) refl), tt),
            ),
          ),
        ),
      ),
    ),
  );
  suffice = refl;
  described = met.described;
  same = refl;
}

again : Brings one_place one_block 3 reordered
unfolding fault rising held_of rest_of stands_at found put with_place refusal count_answer count_places sound fresh has_counted arrival first counted distance reach_of ahead behind pack marks place moved added places ones word packets count_all block_count every
again = record {
  good = refl;
  new = refl;
  ssrcs = refl;
  fit = ((omega arith, below 256 (one_record 255 250 2 ++ one_record 255 161 0 ++ one_record 0 4 3 ++ one_record 0 4 1) (omega arith) refl), tt);
  suffice = refl;
  described = met.again.0;
  same = refl;
}

pub met_sources : MetSources
unfolding held_of
met_sources = record {
  good = mixed.good;
  ssrcs = mixed.ssrcs;
  sender = omega arith;
  some_held = omega arith;
  other = mixed.new;
  brings = mixed;
  some_arrive = omega arith;
  again = again;
}

used : Unit {0}
used =
    let m = met_sources in
    let back = compound_reads_back some_table 9 Profile.Compound m.good m.ssrcs m.sender in
    let held = back.held 0 m.some_held in
    let others = back.others 3 m.other in
    let source = each_source some_table mixed_calls 3 wrapped m.brings in
    let place = source.place m.some_arrive in
    let feedback = source.feedback 9 Profile.ReducedSize m.sender m.some_arrive in
    let order = source.order one_place one_block reordered m.again met.again.1 met.again.2 in
    tt
