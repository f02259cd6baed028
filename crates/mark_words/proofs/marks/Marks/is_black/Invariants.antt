use Rattle.std.proofs.Common.{◌*◌, ◌%◌, ◌^◌}
use Rattle.mark_words.proofs.marks.Marks.is_black.Given as goal

abbrev pub ghosts-are_black : goal.ghosts-are_black
ghosts-are_black g a = record { slots = a.slots }
