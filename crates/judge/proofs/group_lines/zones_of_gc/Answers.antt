use Rattle.judge.proofs.group_lines.zones_of_gc.Goals as goal

pub returns-in_default : goal.returns-in_default
returns-in_default c = λ zones e. absurd (c.in_default.not-Gc zones e)
