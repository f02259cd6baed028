-- Runs that are one answer longer, and members of lists.
use Rattle.std.proofs.Common.{List, [], ◌∷◌, ◌++◌, Contains, refl, subst, arith}
use Rattle.gz_names.specs.declared.commands.Cmd.{Cmd}
use Rattle.gz_names.specs.declared.replies.Reply.{Reply}
use Rattle.gz_names.specs.declared.replies.Report.{Report}
use Rattle.colour_defs.specs.World.{World}
use Rattle.colour_defs.specs.Lawful.{Answers, Run}

pub run_more : (w : World) (cs : List Cmd) (answers : List (List Report × Reply)) (u : World) (c : Cmd)
    (reports : List Report) (answer : Reply) (v : World)
    → Run w cs answers u → Answers u c reports answer v → Run w (cs ++ c ∷ []) (answers ++ (reports, answer) ∷ []) v
run_more w [] [] u c reports answer v same one = (v, subst (λ z. Answers z c reports answer v) same one, refl)
run_more w (d ∷ cs) (a ∷ answers) u c reports answer v (m, first, rest) one =
    (m, first, run_more m cs answers u c reports answer v rest one)
run_more w [] (a ∷ answers) u c reports answer v run one = absurd run
run_more w (d ∷ cs) [] u c reports answer v run one = absurd run

pub none_in_none : {X : Type 0} (x : X) → Contains [] x → ⊥
none_in_none x (k, below, is) = omega (arith, below)
