use Rattle.capi.proofs.tables.flasknib_sources_arrive.Goals as goal

pub arrive_at-requires : goal.arrive_at-requires
arrive_at-requires c = c.place_of-at.ensures c.if-at-lt-UNTOLD.true
