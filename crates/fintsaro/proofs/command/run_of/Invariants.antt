use Rattle.std.proofs.Common.{length, Option}
use Rattle.fintsaro.specs.declared.command.Command.{Command}
use Rattle.fintsaro.specs.Commands.{AsksRun}
use Rattle.fintsaro.proofs.command.run_of.Given as goal

-- what the words that are left ask for, after the options so far, is what all the words ask for
abbrev pub invariant-loop-left : goal.invariant-loop-left
invariant-loop-left l =
    (r : Option Command)
    → AsksRun l.options.places.number l.options.errors l.options.audit l.left r
    → AsksRun l.initial.options.places.number l.initial.options.errors l.initial.options.audit l.words r

-- each option is a word or two fewer
abbrev pub decreases-loop-left : goal.decreases-loop-left
decreases-loop-left l = length l.left
