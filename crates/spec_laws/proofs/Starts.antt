-- What a command may have written before its last line.
use Rattle.std.proofs.Common.{◌≡◌, ◌≤◌, ℕ, inl, inr, List, [], ◌∷◌, ◌++◌, refl, subst, sym, arith}
use Rattle.gz_names.specs.declared.commands.Cmd.{Cmd}
use Rattle.gz_names.specs.declared.commands.Cmd.TheVariants.{Graph, Weak, Gc, Slice, Finish, Collect, Reset, Colours}
use Rattle.gz_names.specs.declared.commands.Cmd.TheVariants.{Dump, Compact}
use Rattle.gz_names.specs.declared.replies.Reply.{Reply}
use Rattle.gz_names.specs.declared.replies.Report.{Report}
use Rattle.gz_names.specs.Zones.{zones_in}
use Rattle.colour_defs.specs.World.{World}
use Rattle.colour_defs.specs.Lawful.{Answers, AreLawfulUnits, StartsToAnswer, DoesUnits, RefusesToBegin}

pub first_units : (w : World) (units more : List (List Report)) (v : World) → AreLawfulUnits w (units ++ more) v
    → (u : World) × AreLawfulUnits w units u × AreLawfulUnits u more v
first_units w [] more v h = (w, refl, h)
first_units w (unit ∷ units) more v (u, first, rest) = let m = first_units u units more v rest in
    (m.0, (u, first, m.1), m.2)

no_units : (w : World) (reports : List Report) → reports ≡ [] → DoesUnits w [] reports
no_units w reports e = record { after = w; done = refl; reports_are = e }

refusal_silent : (w : World) (zones : List ℕ) (reports : List Report) (answer : Reply) (v : World)
    → RefusesToBegin w zones reports answer v → reports ≡ []
refusal_silent w zones reports answer v (inl h) = h.2.silent
refusal_silent w zones reports answer v (inr h) = h.3.silent

pub answer_starts : (w : World) (c : Cmd) (reports : List Report) (answer : Reply) (v : World)
    → Answers w c reports answer v → StartsToAnswer w c reports
answer_starts w (Graph c) reports answer v h = h.0
answer_starts w (Gc zones) reports answer v (inl h) = h.1
answer_starts w (Gc zones) reports answer v (inr h) = refusal_silent w (zones_in zones) reports answer v h
answer_starts w (Slice n) reports answer v (inl h) = let s = h.2 in (
  s.units,
  subst (λ k. k ≤ n) (sym s.number) h.3,
  record { after = s.after; done = s.done; reports_are = s.reports_are },
)
answer_starts w (Slice n) reports answer v (inr h) = ([], omega arith, no_units w reports h.2.silent)
answer_starts w Finish reports answer v (inl h) = let s = h.2 in
    (s.units, record { after = s.after; done = s.done; reports_are = s.reports_are })
answer_starts w Finish reports answer v (inr h) = ([], no_units w reports h.2.silent)
answer_starts w (Collect zones) reports answer v (inl h) = let s = h.1 in
    inr (s.begun, s.begins, s.units, record { after = v; done = s.done; reports_are = s.reports_are })
answer_starts w (Collect zones) reports answer v (inr h) =
    inl (refusal_silent w (zones_in zones) reports answer v h)
answer_starts w (Weak c) reports answer v h = h.0
answer_starts w Reset reports answer v (inl h) = inr (h.1.running, inr (v, h.1))
answer_starts w Reset reports answer v (inr h) = inl h.2.silent
answer_starts w Dump reports answer v (inl h) = h.4.silent
answer_starts w Dump reports answer v (inr h) = h.2.silent
answer_starts w (Compact zone) reports answer v (inl h) = h.3
answer_starts w (Compact zone) reports answer v (inr h) = refusal_silent w (zone ∷ []) reports answer v h
answer_starts w Colours reports answer v (inl h) = h.4.silent
answer_starts w Colours reports answer v (inr h) = h.2.silent
