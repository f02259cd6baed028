use Rattle.par_mark.specs.Marking.{Sought}
use Rattle.par_mark.proofs.over_words.mark_black.Given as goal

abbrev pub ghosts-mark_listed : goal.ghosts-mark_listed
ghosts-mark_listed g a = record {
  places = Sought (g.H.Graph.edge a.heap.now) (g.H.Graph.marking a.heap.now)
      a.words.items a.from.now;
}
