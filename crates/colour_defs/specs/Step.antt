-- What each command does to the graph, and what it answers. Commands, refusals and their order are our
-- choice. Each command has a helper for each of its decisions, in the order in which the decisions are
-- made: a helper named `from` goes by what a register holds, one named `in` by the object there, one named
-- `unless` by the refusal that was found.
use Rattle.std.specs.Prelude.{◌≡◌, ℕ, ◌+◌, ◌≤◌, Bool, true, false, not, ◌&&◌, ◌==◌, nat_lt, if◌then◌else◌, List, []}
use Rattle.std.specs.Prelude.{◌∷◌, ◌++◌, length, Option, Some, None, slice_get, slice_set, replicate}
use Rattle.std.specs.List.{filter}
use Rattle.gz_names.specs.declared.names.Name.{Name}
use Rattle.gz_names.specs.declared.names.Name.TheVariants.{Cell, Wrap}
use Rattle.gz_names.specs.declared.commands.GraphCmd.{GraphCmd}
use Rattle.gz_names.specs.declared.commands.GraphCmd.TheVariants as cmd
use Rattle.gz_names.specs.declared.replies.Reply.{Reply}
use Rattle.gz_names.specs.declared.replies.Reply.TheVariants as reply
use Rattle.gz_names.specs.declared.replies.Refusal.{Refusal}
use Rattle.gz_names.specs.declared.replies.Refusal.TheVariants as refusal
use Rattle.gz_names.specs.declared.numbers.CompNo.{CompNo}
use Rattle.gz_names.specs.declared.limits.TheConstants.{ZONE_LIMIT, COMP_LIMIT, FIELD_LIMIT}
use Rattle.gz_names.specs.Order.{same_name}
use Rattle.colour_defs.specs.declared.graph.Object.{Object}
use Rattle.colour_defs.specs.declared.graph.Entry.{Entry}
use Rattle.colour_defs.specs.Graph.{GraphState, object_of, register_cell, slot_cell, has_wrapper, value_of, comp_of}

-- the graph, with this in a register
abbrev pub with_register : GraphState → ℕ → Option Name → GraphState
with_register g r x = record g { registers = slice_set g.registers r x }

-- the graph, with this in a gray slot
abbrev pub with_slot : GraphState → ℕ → Option Name → GraphState
with_slot g s x = record g { slots = slice_set g.slots s x }

-- a refusal leaves the graph as it is
abbrev pub refuse : GraphState → Refusal → GraphState × Reply
refuse g why = (g, reply.Refused why)

abbrev pub named_or_null : Option Name → Reply
named_or_null None = reply.Null
named_or_null (Some x) = reply.Named x

-- a register takes this, and the reply names it
abbrev pub take_in_register : GraphState → ℕ → Option Name → GraphState × Reply
take_in_register g r x = (with_register g r x, named_or_null x)

abbrev pub make_zone : GraphState → GraphState × Reply
make_zone g =
    if nat_lt g.zones ZONE_LIMIT then (record g { zones = g.zones + 1 }, reply.Zone g.zones) else refuse g refusal.Full

abbrev pub make_comp : GraphState → ℕ → GraphState × Reply
make_comp g z =
    if nat_lt z g.zones
    then (if nat_lt (length g.comps) COMP_LIMIT
    then (record g { comps = g.comps ++ z ∷ [] }, reply.Comp (record { 0 = length g.comps }))
    else refuse g refusal.Full)
    else refuse g refusal.NoZone

-- an object or a map with the next number; a register holds it
abbrev pub make_object : GraphState → ℕ → Object → GraphState × Reply
make_object g r o =
    if nat_lt o.comp.0 (length g.comps)
    then (
      record g {
        objects = g.objects ++ Some o ∷ [];
        registers = slice_set g.registers r (Some (Cell (length g.objects)));
      },
      reply.Made (length g.objects),
    )
    else refuse g refusal.NoComp

abbrev pub new_object : CompNo → ℕ → Object
new_object c n = record { comp = c; is_map = false; fields = replicate n None }

abbrev pub new_map : CompNo → Object
new_map c = record { comp = c; is_map = true; fields = [] }

abbrev pub get_value : GraphState → ℕ → Option (Option Name) → GraphState × Reply
get_value g r None = refuse g refusal.NoField
get_value g r (Some x) = take_in_register g r x

abbrev pub get_in : GraphState → ℕ → Option Object → ℕ → GraphState × Reply
get_in g r None f = refuse g refusal.Kind
get_in g r (Some o) f = if o.is_map then refuse g refusal.Kind else get_value g r (slice_get o.fields f)

abbrev pub get_from : GraphState → ℕ → Option Name → ℕ → GraphState × Reply
get_from g r None f = refuse g refusal.Empty
get_from g r (Some (Wrap c t)) f = refuse g refusal.Kind
get_from g r (Some (Cell n)) f = get_in g r (object_of g n) f

abbrev pub is_same_comp : Option CompNo → CompNo → Bool
is_same_comp None c = false
is_same_comp (Some d) c = d.0 == c.0

-- whether x is a cell of this compartment
abbrev pub is_in_comp : GraphState → CompNo → Name → Bool
is_in_comp g c x = is_same_comp (comp_of g x) c

abbrev pub fits_comp : GraphState → CompNo → Option Name → Bool
fits_comp g c None = true
fits_comp g c (Some x) = is_in_comp g c x

-- an object, if it is there, with this in a field
abbrev pub with_field_in : Option Object → ℕ → Option Name → Option Object
with_field_in None f v = None
with_field_in (Some o) f v = Some (record o { fields = slice_set o.fields f v })

abbrev pub with_field : GraphState → ℕ → Object → ℕ → Option Name → GraphState
with_field g n o f v = record g { objects = slice_set g.objects n (with_field_in (Some o) f v) }

abbrev pub set_in : GraphState → ℕ → Option Object → ℕ → Option Name → GraphState × Reply
set_in g n None f v = refuse g refusal.Kind
set_in g n (Some o) f v =
    if o.is_map
    then refuse g refusal.Kind
    else (if nat_lt f (length o.fields)
    then (if fits_comp g o.comp v then (with_field g n o f v, reply.Accepted) else refuse g refusal.Cross)
    else refuse g refusal.NoField)

-- by what the register of the object holds, and by what is to be written, which is None where the register
-- of the value is empty
abbrev pub set_from : GraphState → Option Name → ℕ → Option (Option Name) → GraphState × Reply
set_from g None f v = refuse g refusal.Empty
set_from g (Some x) f None = refuse g refusal.Empty
set_from g (Some (Wrap c t)) f (Some v) = refuse g refusal.Kind
set_from g (Some (Cell n)) f (Some v) = set_in g n (object_of g n) f v

abbrev pub some_value : Option Name → Option (Option Name)
some_value None = None
some_value (Some x) = Some (Some x)

-- what a `set` is to write: null, or what a register holds, if it holds something
abbrev pub value_to_set : GraphState → Option ℕ → Option (Option Name)
value_to_set g None = Some None
value_to_set g (Some t) = some_value (register_cell g t)

-- the number of the object or map that a name stands for: a wrapper's target, or itself
abbrev pub target_of : Name → ℕ
target_of (Cell n) = n
target_of (Wrap c t) = t

-- a register takes the wrapper of a target in a compartment, which is made if it was never there
abbrev pub take_wrapper : GraphState → ℕ → CompNo → ℕ → GraphState × Reply
take_wrapper g r c t =
    if has_wrapper g c t
    then (with_register g r (Some (Wrap c t)), reply.Named (Wrap c t))
    else (record (with_register g r (Some (Wrap c t))) { wrappers = g.wrappers ++ (c, t) ∷ [] }, reply.Named (Wrap c t))

-- a target of the compartment itself needs no wrapper
abbrev pub wrap_target : GraphState → ℕ → CompNo → ℕ → GraphState × Reply
wrap_target g r c t =
    if is_in_comp g c (Cell t) then (with_register g r (Some (Cell t)), reply.Named (Cell t)) else take_wrapper g r c t

abbrev pub wrap_from : GraphState → ℕ → Option Name → CompNo → GraphState × Reply
wrap_from g r None c = refuse g refusal.Empty
wrap_from g r (Some x) c =
    if nat_lt c.0 (length g.comps) then wrap_target g r c (target_of x) else refuse g refusal.NoComp

abbrev pub unwrap_from : GraphState → ℕ → Option Name → GraphState × Reply
unwrap_from g r None = refuse g refusal.Empty
unwrap_from g r (Some (Cell n)) = refuse g refusal.Kind
unwrap_from g r (Some (Wrap c t)) = (with_register g r (Some (Cell t)), reply.Named (Cell t))

abbrev pub map_comp_in : Option Object → Option CompNo
map_comp_in None = None
map_comp_in (Some o) = if o.is_map then Some o.comp else None

-- the compartment of a map; None for what is no map
abbrev pub map_comp : GraphState → Name → Option CompNo
map_comp g (Wrap c t) = None
map_comp g (Cell n) = map_comp_in (object_of g n)

abbrev pub entry_refusal_in : GraphState → Option CompNo → Name → Name → Option Refusal
entry_refusal_in g None k v = Some refusal.Kind
entry_refusal_in g (Some c) k v = if is_in_comp g c k && is_in_comp g c v then None else Some refusal.Cross

-- why an entry of this map with this key and value is refused, if it is
abbrev pub entry_refusal : GraphState → Name → Name → Name → Option Refusal
entry_refusal g m k v = entry_refusal_in g (map_comp g m) k v

abbrev pub is_entry_of : Name → Name → Entry → Bool
is_entry_of m k e = same_name e.map m && same_name e.key k

-- the entry of a key gets this value, or is added
abbrev pub put_entry : List Entry → Name → Name → Name → List Entry
put_entry [] m k v = record { map = m; key = k; value = v } ∷ []
put_entry (e ∷ es) m k v = if is_entry_of m k e then record e { value = v } ∷ es else e ∷ put_entry es m k v

-- the entries without that of a key
abbrev pub del_entry : List Entry → Name → Name → List Entry
del_entry es m k = filter (λ e. not (is_entry_of m k e)) es

abbrev pub put_unless : GraphState → Name → Name → Name → Option Refusal → GraphState × Reply
put_unless g m k v (Some why) = refuse g why
put_unless g m k v None = (record g { entries = put_entry g.entries m k v }, reply.Accepted)

abbrev pub put_from : GraphState → Option Name → Option Name → Option Name → GraphState × Reply
put_from g None k v = refuse g refusal.Empty
put_from g (Some m) None v = refuse g refusal.Empty
put_from g (Some m) (Some k) None = refuse g refusal.Empty
put_from g (Some m) (Some k) (Some v) = put_unless g m k v (entry_refusal g m k v)

abbrev pub del_value : GraphState → Name → Name → Option Name → GraphState × Reply
del_value g m k None = (g, reply.Absent)
del_value g m k (Some v) = (record g { entries = del_entry g.entries m k }, reply.Accepted)

abbrev pub del_unless : GraphState → Name → Name → Option Refusal → GraphState × Reply
del_unless g m k (Some why) = refuse g why
del_unless g m k None = del_value g m k (value_of g m k)

abbrev pub del_from : GraphState → Option Name → Option Name → GraphState × Reply
del_from g None k = refuse g refusal.Empty
del_from g (Some m) None = refuse g refusal.Empty
del_from g (Some m) (Some k) = del_unless g m k (entry_refusal g m k k)

abbrev pub find_unless : GraphState → ℕ → Name → Name → Option Refusal → GraphState × Reply
find_unless g r m k (Some why) = refuse g why
find_unless g r m k None = take_in_register g r (value_of g m k)

abbrev pub find_from : GraphState → ℕ → Option Name → Option Name → GraphState × Reply
find_from g r None k = refuse g refusal.Empty
find_from g r (Some m) None = refuse g refusal.Empty
find_from g r (Some m) (Some k) = find_unless g r m k (entry_refusal g m k k)

-- the graph after a command, and the reply
abbrev pub step_of : GraphState → GraphCmd → GraphState × Reply
step_of g cmd.Zone = make_zone g
step_of g (cmd.Comp z) = make_comp g z
step_of g (cmd.New r c n) = make_object g r (new_object c n)
step_of g (cmd.Map r c) = make_object g r (new_map c)
step_of g (cmd.Get r s f) = get_from g r (register_cell g s) f
step_of g (cmd.Set s f t) = set_from g (register_cell g s) f (value_to_set g t)
step_of g (cmd.Wrap r s c) = wrap_from g r (register_cell g s) c
step_of g (cmd.Unwrap r s) = unwrap_from g r (register_cell g s)
step_of g (cmd.Copy r s) = (with_register g r (register_cell g s), reply.Accepted)
step_of g (cmd.Drop r) = (with_register g r None, reply.Accepted)
step_of g (cmd.Hold s r) = (with_slot g s (register_cell g r), reply.Accepted)
step_of g (cmd.Release s) = (with_slot g s None, reply.Accepted)
step_of g (cmd.Expose r s) = take_in_register g r (slot_cell g s)
step_of g (cmd.Put m k v) = put_from g (register_cell g m) (register_cell g k) (register_cell g v)
step_of g (cmd.Del m k) = del_from g (register_cell g m) (register_cell g k)
step_of g (cmd.Find r m k) = find_from g r (register_cell g m) (register_cell g k)

-- why a command was refused, by its reply, if it was
abbrev pub refusal_in : Reply → Option Refusal
refusal_in (reply.Zone z) = None
refusal_in (reply.Comp c) = None
refusal_in (reply.Made n) = None
refusal_in (reply.Named x) = None
refusal_in reply.Null = None
refusal_in reply.Accepted = None
refusal_in reply.Absent = None
refusal_in reply.GcBegun = None
refusal_in (reply.Sliced n) = None
refusal_in reply.Collected = None
refusal_in reply.ResetDone = None
refusal_in (reply.Gray names) = None
refusal_in (reply.Dump lines) = None
refusal_in (reply.Compacted moved given) = None
refusal_in (reply.Refused why) = Some why

-- a command is not refused
abbrev pub IsAccepted : GraphState → GraphCmd → Type 0
IsAccepted g c = refusal_in (step_of g c).1 ≡ None

-- a command asks for no more fields than an object may have
abbrev pub HasFewFields : GraphCmd → Type 0
HasFewFields cmd.Zone = Unit {0}
HasFewFields (cmd.Comp z) = Unit {0}
HasFewFields (cmd.New r c n) = n ≤ FIELD_LIMIT
HasFewFields (cmd.Map r c) = Unit {0}
HasFewFields (cmd.Get r s f) = Unit {0}
HasFewFields (cmd.Set s f t) = Unit {0}
HasFewFields (cmd.Wrap r s c) = Unit {0}
HasFewFields (cmd.Unwrap r s) = Unit {0}
HasFewFields (cmd.Copy r s) = Unit {0}
HasFewFields (cmd.Drop r) = Unit {0}
HasFewFields (cmd.Hold s r) = Unit {0}
HasFewFields (cmd.Release s) = Unit {0}
HasFewFields (cmd.Expose r s) = Unit {0}
HasFewFields (cmd.Put m k v) = Unit {0}
HasFewFields (cmd.Del m k) = Unit {0}
HasFewFields (cmd.Find r m k) = Unit {0}
