use Rattle.gz_names.proofs.Words.{HasZone-none}
use Rattle.zone_edges.proofs.Parts.{started, no_edges}
use Rattle.zone_edges.proofs.search.Search.restart.Goals as goal

pub returns-clause-search : goal.returns-clause-search
returns-clause-search c = started c.args.zones _ _ _ c.requires.search.groups_len c.requires.search.levels_len
    c.requires.search.entering_len

pub returns-clause-edges : goal.returns-clause-edges
returns-clause-edges c = no_edges

pub returns-clause-unseen : goal.returns-clause-unseen
returns-clause-unseen c = HasZone-none
