-- What a command counts for, by its reply and by the definitions.
use Rattle.std.proofs.Common.{◌≡◌, ◌∙◌, ℕ, Bool, true, false, List, Option, Some, None, length, refl, sym, ap}
use Rattle.std.specs.Prelude.{nat_lt, slice_get}
use Rattle.gz_names.specs.Zones.{zones_in}
use Rattle.gz_names.specs.declared.names.Name.{Name}
use Rattle.gz_names.specs.declared.names.Name.TheVariants.{Cell, Wrap}
use Rattle.gz_names.specs.declared.numbers.CompNo.{CompNo}
use Rattle.gz_names.specs.declared.commands.GraphCmd.{GraphCmd}
use Rattle.gz_names.specs.declared.commands.GraphCmd.TheVariants as cmd
use Rattle.gz_names.specs.declared.replies.Refusal.{Refusal}
use Rattle.gz_names.specs.declared.replies.Reply.{Reply}
use Rattle.colour_defs.specs.Graph.{GraphState, has_wrapper, is_among, register_cell, slot_cell}
use Rattle.colour_defs.specs.Step.{entry_refusal, is_in_comp, put_from, put_unless, refusal_in, step_of}
use Rattle.colour_defs.specs.Step.{take_in_register, target_of, wrap_from}
use Rattle.colour_defs.specs.Units.{Tally, with_put, with_woken, with_wrappers}
use Rattle.colour_defs.specs.World.{woken_by}
use Rattle.judge.specs.Bounds.{is_accepted, put_if}
use Rattle.judge.specs.Cells.{unless_refused, woken_in}
use Rattle.judge.specs.Stages.{Stage, idle, preparing, collecting, counted_by, put_in, tally_unless, woken_tally}
use Rattle.judge.proofs.Cells.{woken_is, wrapped_by}

-- what is counted of a name that is woken, by the compartments
pub woken_comps : (g h : GraphState) (zones : List ℕ) (x : Option Name) (t : Tally) → h.comps ≡ g.comps
    → with_woken h zones x t ≡ with_woken g zones x t
woken_comps g h zones None t e = refl
woken_comps g h zones (Some (Cell n)) t e = refl
woken_comps g h zones (Some (Wrap c n)) t e =
    ap (λ (comps : List ℕ). with_wrappers t (is_among zones (slice_get comps c.0))) e

woken_nothing : (h : GraphState) (s : Stage) (t : Tally) → woken_tally h s None t ≡ t
woken_nothing h idle t = refl
woken_nothing h (preparing zones) t = refl
woken_nothing h (collecting zones marking groups) t = refl

-- a command that puts nothing
record PutsNothing (c : GraphCmd) : Type 0 where
  puts : (h : GraphState) (zones : List ℕ) (t : Tally) → with_put h zones c t ≡ t

put_nothing : (h : GraphState) (s : Stage) (c : GraphCmd) (r : Reply) (t : Tally) → PutsNothing c
    → put_in h s c r t ≡ t
put_nothing h idle c r t n = refl
put_nothing h (preparing zones) c r t n = refl
put_nothing h (collecting zones marking groups) c r t n = go (is_accepted r)
  where
    go : (b : Bool) → put_if b h (zones_in zones) c t ≡ t
    go true = n.puts h (zones_in zones) t
    go false = refl

-- a command that puts nothing, and under which what it wakes counts as before it
record CountsAlike (g h : GraphState) (c : GraphCmd) (t : Tally) : Type 0 where
  none : PutsNothing c
  same : (zones : List ℕ) → with_woken h zones (woken_by g c) t ≡ with_woken g zones (woken_by g c) t

woken_unless : (g h : GraphState) (s : Stage) (c : GraphCmd) (why : Option Refusal) (t : Tally) → CountsAlike g h c t
    → woken_tally h s (unless_refused why (woken_by g c)) t ≡ tally_unless why g s c t
woken_unless g h s c (Some why) t alike = woken_nothing h s t
woken_unless g h idle c None t alike = refl
woken_unless g h (preparing zones) c None t alike = refl
woken_unless g h (collecting zones marking groups) c None t alike =
    alike.same (zones_in zones)
    ∙ ap (with_woken g (zones_in zones) (woken_by g c)) (sym (alike.none.puts g (zones_in zones) t))

alike_is : (g : GraphState) (s : Stage) (c : GraphCmd) (t : Tally) → CountsAlike g (step_of g c).0 c t
    → counted_by (step_of g c).0 s c (step_of g c).1 t ≡ tally_unless (refusal_in (step_of g c).1) g s c t
alike_is g s c t alike =
    ap (woken_tally (step_of g c).0 s (woken_in c (step_of g c).1))
    (put_nothing (step_of g c).0 s c (step_of g c).1 t alike.none)
    ∙ ap (λ (x : Option Name). woken_tally (step_of g c).0 s x t) (woken_is g c)
    ∙ woken_unless g (step_of g c).0 s c (refusal_in (step_of g c).1) t alike

-- the compartments stay where a wrapper is made, and where a gray slot hands out a cell
wrapped_comps : (made here known : Bool) (g : GraphState) (r : ℕ) (c : CompNo) (t : ℕ)
    → (wrapped_by made here known g r c t).0.comps ≡ g.comps
wrapped_comps true true known g r c t = refl
wrapped_comps true false true g r c t = refl
wrapped_comps true false false g r c t = refl
wrapped_comps false here known g r c t = refl

wrap_comps : (g : GraphState) (r : ℕ) (x : Option Name) (c : CompNo) → (wrap_from g r x c).0.comps ≡ g.comps
wrap_comps g r None c = refl
wrap_comps g r (Some x) c =
    wrapped_comps (nat_lt c.0 (length g.comps)) (is_in_comp g c (Cell (target_of x))) (has_wrapper g c (target_of x)) g
    r c (target_of x)

take_comps : (g : GraphState) (r : ℕ) (x : Option Name) → (take_in_register g r x).0.comps ≡ g.comps
take_comps g r None = refl
take_comps g r (Some x) = refl

-- an entry that is put
put_is : (g : GraphState) (s : Stage) (m k v : ℕ) (t : Tally)
    → put_in (step_of g (cmd.Put m k v)).0 s (cmd.Put m k v) (step_of g (cmd.Put m k v)).1 t
    ≡ tally_unless (refusal_in (step_of g (cmd.Put m k v)).1) g s (cmd.Put m k v) t
put_is g idle m k v t = go (refusal_in (step_of g (cmd.Put m k v)).1)
  where
    go : (why : Option Refusal) → t ≡ tally_unless why g idle (cmd.Put m k v) t
    go None = refl
    go (Some why) = refl
put_is g (preparing zones) m k v t = go (refusal_in (step_of g (cmd.Put m k v)).1)
  where
    go : (why : Option Refusal) → t ≡ tally_unless why g (preparing zones) (cmd.Put m k v) t
    go None = refl
    go (Some why) = refl
put_is g (collecting zones marking groups) m k v t =
    go (register_cell g m) (register_cell g k) (register_cell g v)
  where
    by : (a b d : Name) (why : Option Refusal)
        → put_if (is_accepted (put_unless g a b d why).1) (put_unless g a b d why).0 (zones_in zones) (cmd.Put m k v) t
        ≡ tally_unless (refusal_in (put_unless g a b d why).1) g (collecting zones marking groups) (cmd.Put m k v) t
    by a b d None = refl
    by a b d (Some why) = refl

    go : (x y z : Option Name)
        → put_if (is_accepted (put_from g x y z).1) (put_from g x y z).0 (zones_in zones) (cmd.Put m k v) t
        ≡ tally_unless (refusal_in (put_from g x y z).1) g (collecting zones marking groups) (cmd.Put m k v) t
    go None y z = refl
    go (Some a) None z = refl
    go (Some a) (Some b) None = refl
    go (Some a) (Some b) (Some d) = by a b d (entry_refusal g a b d)

quiet : (c : GraphCmd) → ((h : GraphState) (zones : List ℕ) (t : Tally) → with_put h zones c t ≡ t) → PutsNothing c
quiet c f = record { puts = f }

pub counted_is : (g : GraphState) (s : Stage) (c : GraphCmd) (t : Tally)
    → counted_by (step_of g c).0 s c (step_of g c).1 t ≡ tally_unless (refusal_in (step_of g c).1) g s c t
counted_is g s (cmd.Put m k v) t =
    woken_nothing (step_of g (cmd.Put m k v)).0 s _ ∙ put_is g s m k v t
counted_is g s (cmd.Wrap r a c) t = alike_is g s (cmd.Wrap r a c) t (record {
  none = quiet (cmd.Wrap r a c) (λ h zones u. refl);
  same = λ zones. woken_comps g (step_of g (cmd.Wrap r a c)).0 zones (woken_by g (cmd.Wrap r a c)) t
      (wrap_comps g r (register_cell g a) c);
})
counted_is g s (cmd.Expose r a) t = alike_is g s (cmd.Expose r a) t (record {
  none = quiet (cmd.Expose r a) (λ h zones u. refl);
  same = λ zones. woken_comps g (step_of g (cmd.Expose r a)).0 zones (woken_by g (cmd.Expose r a)) t
      (take_comps g r (slot_cell g a));
})
counted_is g s cmd.Zone t = alike_is g s cmd.Zone t
    (record { none = quiet cmd.Zone (λ h zones u. refl); same = λ zones. refl })
counted_is g s (cmd.Comp z) t = alike_is g s (cmd.Comp z) t
    (record { none = quiet (cmd.Comp z) (λ h zones u. refl); same = λ zones. refl })
counted_is g s (cmd.New r c n) t = alike_is g s (cmd.New r c n) t
    (record { none = quiet (cmd.New r c n) (λ h zones u. refl); same = λ zones. refl })
counted_is g s (cmd.Map r c) t = alike_is g s (cmd.Map r c) t
    (record { none = quiet (cmd.Map r c) (λ h zones u. refl); same = λ zones. refl })
counted_is g s (cmd.Get r a f) t = alike_is g s (cmd.Get r a f) t
    (record { none = quiet (cmd.Get r a f) (λ h zones u. refl); same = λ zones. refl })
counted_is g s (cmd.Set a f v) t = alike_is g s (cmd.Set a f v) t
    (record { none = quiet (cmd.Set a f v) (λ h zones u. refl); same = λ zones. refl })
counted_is g s (cmd.Unwrap r a) t = alike_is g s (cmd.Unwrap r a) t
    (record { none = quiet (cmd.Unwrap r a) (λ h zones u. refl); same = λ zones. refl })
counted_is g s (cmd.Copy r a) t = alike_is g s (cmd.Copy r a) t
    (record { none = quiet (cmd.Copy r a) (λ h zones u. refl); same = λ zones. refl })
counted_is g s (cmd.Drop r) t = alike_is g s (cmd.Drop r) t
    (record { none = quiet (cmd.Drop r) (λ h zones u. refl); same = λ zones. refl })
counted_is g s (cmd.Hold a r) t = alike_is g s (cmd.Hold a r) t
    (record { none = quiet (cmd.Hold a r) (λ h zones u. refl); same = λ zones. refl })
counted_is g s (cmd.Release a) t = alike_is g s (cmd.Release a) t
    (record { none = quiet (cmd.Release a) (λ h zones u. refl); same = λ zones. refl })
counted_is g s (cmd.Del m k) t = alike_is g s (cmd.Del m k) t
    (record { none = quiet (cmd.Del m k) (λ h zones u. refl); same = λ zones. refl })
counted_is g s (cmd.Find r m k) t = alike_is g s (cmd.Find r m k) t
    (record { none = quiet (cmd.Find r m k) (λ h zones u. refl); same = λ zones. refl })
