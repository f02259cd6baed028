-- What a command will overwrite or remove, what it is about, and what it will hand to its register.
use Rattle.std.specs.Prelude.{ℕ, Option, Some, None, Result, Ok, Err, is_some, slice_get, option_and_then}
use Rattle.std.specs.Prelude.{if◌then◌else◌}
use Rattle.std.specs.Option.{option_map}
use Rattle.gz_names.specs.declared.commands.GraphCmd.{GraphCmd}
use Rattle.gz_names.specs.declared.commands.GraphCmd.TheVariants as cmd
use Rattle.gz_names.specs.declared.numbers.CompNo.{CompNo}
use Rattle.gz_names.specs.declared.numbers.Place.{Place}
use Rattle.gz_names.specs.declared.replies.CmdFault.{CmdFault}
use Rattle.gz_names.specs.declared.replies.Reply.{Reply}
use Rattle.heap_core.specs.Heap.{HeapState, reg_of, slot_of}
use Rattle.heap_core.specs.Lookups.{held_field, held_value, seen_from, target_at}

-- what a command overwrites or removes: a field's value, or an entry's
abbrev pub stored : HeapState → GraphCmd → Option Place
stored h cmd.Zone = None
stored h (cmd.Comp z) = None
stored h (cmd.New r c n) = None
stored h (cmd.Map r c) = None
stored h (cmd.Get r s f) = None
stored h (cmd.Set s f t) = held_field h s f
stored h (cmd.Wrap r s c) = None
stored h (cmd.Unwrap r s) = None
stored h (cmd.Copy r s) = None
stored h (cmd.Drop r) = None
stored h (cmd.Hold g r) = None
stored h (cmd.Release g) = None
stored h (cmd.Expose r g) = None
stored h (cmd.Put m k v) = held_value h m k
stored h (cmd.Del m k) = held_value h m k
stored h (cmd.Find r m k) = None

-- the present cell that a command hands to its register
abbrev pub handed : HeapState → GraphCmd → Option Place
handed h cmd.Zone = None
handed h (cmd.Comp z) = None
handed h (cmd.New r c n) = None
handed h (cmd.Map r c) = None
handed h (cmd.Get r s f) = held_field h s f
handed h (cmd.Set s f t) = None
handed h (cmd.Wrap r s c) = option_and_then (λ p. seen_from h.shape c (target_at h.shape p)) (reg_of h s)
handed h (cmd.Unwrap r s) = held_field h s 0
handed h (cmd.Copy r s) = reg_of h s
handed h (cmd.Drop r) = None
handed h (cmd.Hold g r) = None
handed h (cmd.Release g) = None
handed h (cmd.Expose r g) = slot_of h g
handed h (cmd.Put m k v) = None
handed h (cmd.Del m k) = None
handed h (cmd.Find r m k) = held_value h m k

-- what a `wrap` is about: the target of a register's wrapper, or the register's cell itself
abbrev pub wrapped_target : HeapState → GraphCmd → Option Place
wrapped_target h cmd.Zone = None
wrapped_target h (cmd.Comp z) = None
wrapped_target h (cmd.New r c n) = None
wrapped_target h (cmd.Map r c) = None
wrapped_target h (cmd.Get r s f) = None
wrapped_target h (cmd.Set s f t) = None
wrapped_target h (cmd.Wrap r s c) = option_map (target_at h.shape) (reg_of h s)
wrapped_target h (cmd.Unwrap r s) = None
wrapped_target h (cmd.Copy r s) = None
wrapped_target h (cmd.Drop r) = None
wrapped_target h (cmd.Hold g r) = None
wrapped_target h (cmd.Release g) = None
wrapped_target h (cmd.Expose r g) = None
wrapped_target h (cmd.Put m k v) = None
wrapped_target h (cmd.Del m k) = None
wrapped_target h (cmd.Find r m k) = None

-- the zone of a new wrapper of a register's cell in a compartment; none where the compartment sees the cell already
abbrev pub wrapped_in : HeapState → Option Place → CompNo → Option ℕ
wrapped_in h None c = None
wrapped_in h (Some p) c = if is_some (seen_from h.shape c (target_at h.shape p)) then None
    else slice_get h.shape.comps c.0

-- the zone in which a command makes a cell, if it makes one
abbrev pub made_in : HeapState → GraphCmd → Option ℕ
made_in h cmd.Zone = None
made_in h (cmd.Comp z) = None
made_in h (cmd.New r c n) = slice_get h.shape.comps c.0
made_in h (cmd.Map r c) = slice_get h.shape.comps c.0
made_in h (cmd.Get r s f) = None
made_in h (cmd.Set s f t) = None
made_in h (cmd.Wrap r s c) = wrapped_in h (reg_of h s) c
made_in h (cmd.Unwrap r s) = None
made_in h (cmd.Copy r s) = None
made_in h (cmd.Drop r) = None
made_in h (cmd.Hold g r) = None
made_in h (cmd.Release g) = None
made_in h (cmd.Expose r g) = None
made_in h (cmd.Put m k v) = None
made_in h (cmd.Del m k) = None
made_in h (cmd.Find r m k) = None

-- how many cells a command made, by its result: one where it is answered and makes a cell
abbrev pub cells_made : HeapState → GraphCmd → Result Reply CmdFault → ℕ
cells_made h c (Ok answer) = if is_some (made_in h c) then 1 else 0
cells_made h c (Err fault) = 0
