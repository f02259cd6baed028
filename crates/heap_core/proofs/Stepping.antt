-- Commands that are refused, that want memory, and that are done.
use Rattle.std.proofs.Common.{◌≡◌, Result, Ok, Err, None, refl, ap, subst, sym}
use Rattle.gz_names.specs.declared.commands.GraphCmd.{GraphCmd}
use Rattle.gz_names.specs.declared.replies.Reply.{Reply}
use Rattle.gz_names.specs.declared.replies.Refusal.{Refusal}
use Rattle.gz_names.specs.declared.replies.CmdFault.{CmdFault}
use Rattle.gz_names.specs.declared.replies.CmdFault.TheVariants as fault
use Rattle.colour_defs.specs.Graph.{GraphState}
use Rattle.colour_defs.specs.Step.{step_of, refuse, refusal_in}
use Rattle.heap_core.specs.Heap.{HeapState}
use Rattle.heap_core.specs.Shows.{Shows}
use Rattle.heap_core.specs.Answers.{DoesStep, IsAfter, IsSound}

pub does-refused : (h : HeapState) (c : GraphCmd) (why : Refusal)
    → ((g : GraphState) → Shows h g → step_of g c ≡ refuse g why) → DoesStep h c (Err (fault.Refused why)) h
does-refused h c why e g s = (ap (λ (p : GraphState × Reply). p.1) (e g s), refl)

pub does-wanting : (h : HeapState) (c : GraphCmd) → ((g : GraphState) → Shows h g → refusal_in (step_of g c).1 ≡ None)
    → DoesStep h c (Err fault.NoMemory) h
does-wanting h c e g s = (e g s, refl)

-- the step's graph and its reply, and that it is no refusal
pub record Goes (h : HeapState) (c : GraphCmd) (r : Reply) (k : HeapState) (g : GraphState) : Type 0 where
  pub after : GraphState
  pub step : step_of g c ≡ (after, r)
  pub sure : refusal_in r ≡ None
  pub shows : Shows k after

pub does-accepted : (h : HeapState) (c : GraphCmd) (r : Reply) (k : HeapState)
    → ((g : GraphState) → Shows h g → Goes h c r k g) → DoesStep h c (Ok r) k
does-accepted h c r k goes g s =
    let d = goes g s in (
      (
        sym (ap (λ (p : GraphState × Reply). p.1) d.step),
        subst (λ (p : GraphState × Reply). refusal_in p.1 ≡ None) (sym d.step) d.sure,
      ),
      subst (λ (p : GraphState × Reply). Shows k p.0) (sym d.step) d.shows,
    )

-- after a command the heap shows a graph still
sound-at : (old new : HeapState) (g v : GraphState) (result : Result Reply CmdFault) → Shows old g
    → IsAfter old v result new → IsSound new
sound-at old new g v (Ok answer) s after = (v, after)
sound-at old new g v (Err fault) s after = (g, subst (λ (h : HeapState). Shows h g) (sym after) s)

pub still-sound : (old new : HeapState) (c : GraphCmd) (result : Result Reply CmdFault) → IsSound old
    → DoesStep old c result new → IsSound new
still-sound old new c result sound does = sound-at old new sound.0 (step_of sound.0 c).0 result sound.1
    (does sound.0 sound.1).1
