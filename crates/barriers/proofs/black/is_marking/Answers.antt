use Rattle.barriers.proofs.black.is_marking.Goals as goal

pub zone_at-requires : goal.zone_at-requires
zone_at-requires c = c.requires.present
