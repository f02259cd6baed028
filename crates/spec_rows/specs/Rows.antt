-- Worked rows: commands of a trace, and their answers.
use Rattle.std.specs.Prelude.{ℕ, List, [], ◌∷◌, ◌++◌, Some, None, replicate}
use Rattle.gz_names.specs.declared.names.Name.{Name}
use Rattle.gz_names.specs.declared.names.Name.TheVariants as name
use Rattle.gz_names.specs.declared.names.Name.TheVariants.{Cell}
use Rattle.gz_names.specs.declared.numbers.CompNo.{CompNo}
use Rattle.gz_names.specs.declared.zone_sets.ZoneSet.{ZoneSet}
use Rattle.gz_names.specs.declared.commands.GraphCmd.TheVariants.{Zone, Comp, New, Map, Set, Get, Wrap, Drop, Hold}
use Rattle.gz_names.specs.declared.commands.GraphCmd.TheVariants.{Expose, Put, Find}
use Rattle.gz_names.specs.declared.commands.WeakCmd.TheVariants.{Weaken, Deref, Watch}
use Rattle.gz_names.specs.declared.commands.Cmd.{Cmd}
use Rattle.gz_names.specs.declared.commands.Cmd.TheVariants.{Graph, Weak, Gc, Slice, Finish, Collect, Reset, Colours}
use Rattle.gz_names.specs.declared.commands.Cmd.TheVariants.{Compact}
use Rattle.gz_names.specs.declared.replies.Reply.{Reply}
use Rattle.gz_names.specs.declared.replies.Reply.TheVariants as reply
use Rattle.gz_names.specs.declared.replies.Report.{Report}
use Rattle.gz_names.specs.declared.replies.Report.TheVariants.{Started, Groups, Ended, Swept, Done, Stopped}
use Rattle.gz_names.specs.declared.replies.Refusal.TheVariants as refusal
use Rattle.colour_defs.specs.Graph.{GraphState}
use Rattle.colour_defs.specs.Step.{new_map, new_object}

abbrev pub comp_0 : CompNo
comp_0 = record { 0 = 0 }

-- the set of zone 0
abbrev pub only_zone_0 : ZoneSet
only_zone_0 = record { bits = 1 }

-- a command that reports nothing, by its reply
abbrev pub quiet : Reply → List Report × Reply
quiet answer = ([], answer)

-- linked and dropped: cell 1 is held by cell 0, cell 2 by nothing
abbrev pub linked_and_dropped : List Cmd
linked_and_dropped =
    Graph Zone ∷ Graph (Comp 0) ∷ Graph (New 0 comp_0 1) ∷ Graph (New 1 comp_0 0) ∷ Graph (Set 0 0 (Some 1))
    ∷ Graph (New 1 comp_0 0) ∷ Graph (Drop 1) ∷ Collect only_zone_0 ∷ Graph (Get 2 0 0) ∷ []

abbrev pub answers_linked_and_dropped : List (List Report × Reply)
answers_linked_and_dropped =
    quiet (reply.Zone 0) ∷ quiet (reply.Comp comp_0) ∷ quiet (reply.Made 0) ∷ quiet (reply.Made 1)
    ∷ quiet reply.Accepted ∷ quiet (reply.Made 2) ∷ quiet reply.Accepted
    ∷ (
      Started ∷ Groups (only_zone_0 ∷ []) ∷ Ended only_zone_0 [] [] ∷ Swept 0 (Cell 2 ∷ []) ∷ Done ∷ [],
      reply.Collected,
    ) ∷ quiet (reply.Named (Cell 1)) ∷ []

-- these answers without the freed cell, which are wrong
abbrev pub answers_without_freed_cell : List (List Report × Reply)
answers_without_freed_cell =
    quiet (reply.Zone 0) ∷ quiet (reply.Comp comp_0) ∷ quiet (reply.Made 0) ∷ quiet (reply.Made 1)
    ∷ quiet reply.Accepted ∷ quiet (reply.Made 2) ∷ quiet reply.Accepted
    ∷ (Started ∷ Groups (only_zone_0 ∷ []) ∷ Ended only_zone_0 [] [] ∷ Swept 0 [] ∷ Done ∷ [], reply.Collected)
    ∷ quiet (reply.Named (Cell 1)) ∷ []

-- a gray slot alone holds cell 0, which holds cell 1; handed out, both turn black
abbrev pub gray_slot_alone : List Cmd
gray_slot_alone =
    Graph Zone ∷ Graph (Comp 0) ∷ Graph (New 0 comp_0 1) ∷ Graph (New 1 comp_0 0) ∷ Graph (Set 0 0 (Some 1))
    ∷ Graph (Hold 3 0) ∷ Graph (Drop 0) ∷ Graph (Drop 1) ∷ Collect only_zone_0 ∷ Colours ∷ Graph (Expose 5 3)
    ∷ Colours ∷ []

abbrev pub answers_gray_slot_alone : List (List Report × Reply)
answers_gray_slot_alone =
    quiet (reply.Zone 0) ∷ quiet (reply.Comp comp_0) ∷ quiet (reply.Made 0) ∷ quiet (reply.Made 1)
    ∷ quiet reply.Accepted ∷ quiet reply.Accepted ∷ quiet reply.Accepted ∷ quiet reply.Accepted
    ∷ (
      Started ∷ Groups (only_zone_0 ∷ []) ∷ Ended only_zone_0 (Cell 0 ∷ Cell 1 ∷ []) [] ∷ Swept 0 [] ∷ Done ∷ [],
      reply.Collected,
    ) ∷ quiet (reply.Gray (Cell 0 ∷ Cell 1 ∷ [])) ∷ quiet (reply.Named (Cell 0))
    ∷ quiet (reply.Gray []) ∷ []

-- a black map with a gray key: the value is gray, and turns black with the key
abbrev pub gray_key : List Cmd
gray_key =
    Graph Zone ∷ Graph (Comp 0) ∷ Graph (Map 0 comp_0) ∷ Graph (New 1 comp_0 0) ∷ Graph (New 2 comp_0 0)
    ∷ Graph (Put 0 1 2) ∷ Graph (Hold 0 1) ∷ Graph (Drop 1) ∷ Graph (Drop 2) ∷ Collect only_zone_0
    ∷ Graph (Expose 1 0) ∷ Colours ∷ Graph (Find 3 0 1) ∷ []

abbrev pub answers_gray_key : List (List Report × Reply)
answers_gray_key =
    quiet (reply.Zone 0) ∷ quiet (reply.Comp comp_0) ∷ quiet (reply.Made 0) ∷ quiet (reply.Made 1)
    ∷ quiet (reply.Made 2) ∷ quiet reply.Accepted ∷ quiet reply.Accepted ∷ quiet reply.Accepted ∷ quiet reply.Accepted
    ∷ (
      Started ∷ Groups (only_zone_0 ∷ []) ∷ Ended only_zone_0 (Cell 1 ∷ Cell 2 ∷ []) [] ∷ Swept 0 [] ∷ Done ∷ [],
      reply.Collected,
    ) ∷ quiet (reply.Named (Cell 1)) ∷ quiet (reply.Gray []) ∷ quiet (reply.Named (Cell 2))
    ∷ []

-- made and dropped while marking: the slice before begins the marking, this collection keeps the cell, and the next
-- one frees it
abbrev pub made_while_marking : List Cmd
made_while_marking =
    Graph Zone ∷ Graph (Comp 0) ∷ Gc only_zone_0 ∷ Slice 1 ∷ Graph (New 0 comp_0 0)
    ∷ Graph (Drop 0) ∷ Finish ∷ Collect only_zone_0 ∷ []

abbrev pub answers_made_while_marking : List (List Report × Reply)
answers_made_while_marking =
    quiet (reply.Zone 0) ∷ quiet (reply.Comp comp_0) ∷ quiet reply.GcBegun
    ∷ (Started ∷ [], reply.Sliced 1) ∷ quiet (reply.Made 0) ∷ quiet reply.Accepted
    ∷ (Groups (only_zone_0 ∷ []) ∷ Ended only_zone_0 [] [] ∷ Swept 0 [] ∷ Done ∷ [], reply.Sliced 3)
    ∷ (
      Started ∷ Groups (only_zone_0 ∷ []) ∷ Ended only_zone_0 [] [] ∷ Swept 0 (Cell 0 ∷ []) ∷ Done ∷ [],
      reply.Collected,
    ) ∷ []

abbrev pub comp_1 : CompNo
comp_1 = record { 0 = 1 }

-- the set of zone 1, and that of zones 0 and 1
abbrev pub only_zone_1 : ZoneSet
only_zone_1 = record { bits = 2 }

abbrev pub zones_0_and_1 : ZoneSet
zones_0_and_1 = record { bits = 3 }

-- one way, gray: a gray cell of zone 0 holds a wrapper of a cell of zone 1, so zone 0 ends first
abbrev pub one_way_gray : List Cmd
one_way_gray =
    Graph Zone ∷ Graph Zone ∷ Graph (Comp 0) ∷ Graph (Comp 1) ∷ Graph (New 0 comp_0 1) ∷ Graph (New 1 comp_1 0)
    ∷ Graph (Wrap 2 1 comp_0) ∷ Graph (Set 0 0 (Some 2)) ∷ Graph (Hold 0 0) ∷ Graph (Drop 0) ∷ Graph (Drop 1)
    ∷ Graph (Drop 2) ∷ Collect zones_0_and_1 ∷ []

abbrev pub answers_one_way_gray : List (List Report × Reply)
answers_one_way_gray =
    quiet (reply.Zone 0) ∷ quiet (reply.Zone 1) ∷ quiet (reply.Comp comp_0) ∷ quiet (reply.Comp comp_1)
    ∷ quiet (reply.Made 0) ∷ quiet (reply.Made 1) ∷ quiet (reply.Named (name.Wrap comp_0 1)) ∷ quiet reply.Accepted
    ∷ quiet reply.Accepted ∷ quiet reply.Accepted ∷ quiet reply.Accepted ∷ quiet reply.Accepted
    ∷ (
      Started ∷ Groups (only_zone_0 ∷ only_zone_1 ∷ []) ∷ Ended only_zone_0 (Cell 0 ∷ name.Wrap comp_0 1
          ∷ []) [] ∷ Swept 0 [] ∷ Ended only_zone_1 (Cell 1 ∷ []) [] ∷ Swept 1 [] ∷ Done ∷ [],
      reply.Collected,
    ) ∷ []

-- made and dropped while its zone is prepared: the cell is white, and this collection frees it; colours are not told
abbrev pub made_while_preparing : List Cmd
made_while_preparing =
    Graph Zone ∷ Graph (Comp 0) ∷ Gc only_zone_0 ∷ Graph (New 0 comp_0 0) ∷ Graph (Drop 0) ∷ Colours ∷ Finish ∷ []

abbrev pub answers_while_preparing : List Name → List (List Report × Reply)
answers_while_preparing freed =
    quiet (reply.Zone 0) ∷ quiet (reply.Comp comp_0) ∷ quiet reply.GcBegun ∷ quiet (reply.Made 0)
    ∷ quiet reply.Accepted ∷ quiet (reply.Refused refusal.Marking)
    ∷ (Started ∷ Groups (only_zone_0 ∷ []) ∷ Ended only_zone_0 [] [] ∷ Swept 0 freed ∷ Done ∷ [], reply.Sliced 4) ∷ []

-- given up while its zone is prepared: the cell that a gray slot holds becomes black with all of its zone
abbrev pub given_up : List Cmd
given_up =
    Graph Zone ∷ Graph (Comp 0) ∷ Graph (New 0 comp_0 0) ∷ Graph (Hold 0 0) ∷ Graph (Drop 0) ∷ Gc only_zone_0 ∷ Reset
    ∷ Colours ∷ []

abbrev pub answers_given_up : List Name → List (List Report × Reply)
answers_given_up grays =
    quiet (reply.Zone 0) ∷ quiet (reply.Comp comp_0) ∷ quiet (reply.Made 0) ∷ quiet reply.Accepted
    ∷ quiet reply.Accepted ∷ quiet reply.GcBegun
    ∷ (Stopped only_zone_0 ∷ [], reply.ResetDone) ∷ quiet (reply.Gray grays) ∷ []

-- given up once its marking has begun, which takes a unit for the arena and one more: the cell becomes black, too
abbrev pub given_up_while_marking : List Cmd
given_up_while_marking =
    Graph Zone ∷ Graph (Comp 0) ∷ Graph (New 0 comp_0 0) ∷ Graph (Hold 0 0) ∷ Graph (Drop 0) ∷ Gc only_zone_0 ∷ Slice 2
    ∷ Reset ∷ Colours ∷ []

abbrev pub answers_given_up_while_marking : List Name → List (List Report × Reply)
answers_given_up_while_marking grays =
    quiet (reply.Zone 0) ∷ quiet (reply.Comp comp_0) ∷ quiet (reply.Made 0) ∷ quiet reply.Accepted
    ∷ quiet reply.Accepted ∷ quiet reply.GcBegun ∷ (Started ∷ [], reply.Sliced 2)
    ∷ (Stopped only_zone_0 ∷ [], reply.ResetDone) ∷ quiet (reply.Gray grays) ∷ []

-- named by a weak slot and watched: neither keeps cell 0; its death is told, and the slot loses it
abbrev pub weakly_named : List Cmd
weakly_named =
    Graph Zone ∷ Graph (Comp 0) ∷ Graph (New 0 comp_0 0) ∷ Weak (Weaken 0 0) ∷ Weak (Watch 0) ∷ Graph (Drop 0)
    ∷ Collect only_zone_0 ∷ Weak (Deref 1 0) ∷ []

abbrev pub answers_weakly_named : Reply → List (List Report × Reply)
answers_weakly_named read =
    quiet (reply.Zone 0) ∷ quiet (reply.Comp comp_0) ∷ quiet (reply.Made 0) ∷ quiet reply.Accepted
    ∷ quiet reply.Accepted ∷ quiet reply.Accepted
    ∷ (
      Started ∷ Groups (only_zone_0 ∷ []) ∷ Ended only_zone_0 [] (Cell 0 ∷ []) ∷ Swept 0 (Cell 0 ∷ []) ∷ Done ∷ [],
      reply.Collected,
    ) ∷ quiet read ∷ []

-- a compaction then gives up the arena in which it lay
abbrev pub compacted : List Cmd
compacted = weakly_named ++ Compact 0 ∷ []

abbrev pub answers_compacted : ℕ → List (List Report × Reply)
answers_compacted given = answers_weakly_named reply.Null ++ quiet (reply.Compacted 0 given) ∷ []

-- a wrapper key: map 0 of compartment 0 has as a key the wrapper of cell 1, which is of compartment 1, and as its
-- value cell 2
abbrev pub wrapper_key : GraphState
wrapper_key = record {
  zones = 2;
  comps = 0 ∷ 1 ∷ [];
  objects = Some (new_map comp_0) ∷ Some (new_object comp_1 0) ∷ Some (new_object comp_0 0) ∷ [];
  wrappers = (comp_0, 1) ∷ [];
  entries = record { map = Cell 0; key = name.Wrap comp_0 1; value = Cell 2 } ∷ [];
  registers = replicate 16 None;
  slots = replicate 64 None;
}
