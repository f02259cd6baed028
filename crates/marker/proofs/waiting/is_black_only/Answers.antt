use Rattle.marker.proofs.waiting.is_black_only.Goals as goal

pub zone_at-requires : goal.zone_at-requires
zone_at-requires c = c.requires.present
