-- What a call given as a value is in the rules, and what "done" answers to it. Assumes nothing.
use Rattle.table.specs.Steps as steps
use Rattle.answers.specs.declared.Answer.{Answer}
use Rattle.answers.specs.declared.Answer.TheVariants.{Done, Ended}
use Rattle.made_call.specs.declared.Call.{Call}
use Rattle.made_call.specs.declared.Call.TheVariants.{Insert, Put, Remove, Detach, Reattach, Retain, Drain, Clear}

abbrev pub call_of : Call → steps.Call
call_of (Insert x) = steps.c_insert x
call_of (Put k x) = steps.c_put k x
call_of (Remove k) = steps.c_remove k
call_of (Detach k) = steps.c_detach k
call_of (Reattach k x) = steps.c_reattach k x
call_of (Retain rule) = steps.c_retain rule
call_of Drain = steps.c_drain
call_of Clear = steps.c_clear

-- a drain step that finds nothing left has ended
abbrev pub done_of : Call → Answer
done_of (Insert x) = Done
done_of (Put k x) = Done
done_of (Remove k) = Done
done_of (Detach k) = Done
done_of (Reattach k x) = Done
done_of (Retain rule) = Done
done_of Drain = Ended
done_of Clear = Done
