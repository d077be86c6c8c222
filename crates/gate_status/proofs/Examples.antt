-- Worked lines: the definitions compute what they say. (Of lines with a text in them tests say it: a proof can't compute whether
-- bytes are UTF-8.)
use Rattle.std.proofs.Common.{◌≡◌, Ok, Err, codes, refl}
use Rattle.gate_status.specs.declared.command.Command.TheVariants as command
use Rattle.gate_status.specs.declared.command.CommandFault.TheVariants.{Empty, Unknown, Arguments, Number}
use Rattle.gate_status.specs.Commands.{command_of}

blank : command_of (codes "   ") ≡ Err Empty
blank = refl

leading_space : command_of (codes " status") ≡ Err Unknown
leading_space = refl

extra_space : command_of (codes "status ") ≡ Err Arguments
extra_space = refl

extra_word : command_of (codes "status x") ≡ Err Arguments
extra_word = refl

no_word_more : command_of (codes "result") ≡ Err Arguments
no_word_more = refl

a_number_first : command_of (codes "result x") ≡ Err Number
a_number_first = refl

a_set : command_of (codes "result 0 0 x success build") ≡ Err Number
a_set = refl

no_number : command_of (codes "reset 0 0 change 0") ≡ Err Arguments
no_number = refl

no_key : command_of (codes "dequeue 0 0 foo 0 7") ≡ Err Arguments
no_key = refl

an_empty_field : command_of (codes "dequeue 0  change 0 7") ≡ Err Arguments
an_empty_field = refl

no_outcome : command_of (codes "result 0 0 1 maybe build") ≡ Err Arguments
no_outcome = refl

an_empty_number : command_of (codes "reset 0 0 change 0 ") ≡ Err Arguments
an_empty_number = refl

shown : command_of (codes "status") ≡ Ok command.Status
shown = refl
