-- Which command a line of a status session is.
use Rattle.std.specs.Prelude.{◌≡◌, List, ℕ, Bool, true, false, Option, Some, None, Result, Ok, Err, codes, IsTrue, if◌then◌else◌}
use Rattle.std.specs.Str.{bytes_eq}
use Rattle.gate_line.specs.declared.field.LineFault.{LineFault}
use Rattle.gate_line.specs.declared.field.LineFault.TheVariants as line
use Rattle.gate_line.specs.declared.posts.Post.{Post}
use Rattle.gate_line.specs.declared.posts.Post.TheVariants as post
use Rattle.gate_line.specs.declared.posts.PostKind.{PostKind}
use Rattle.gate_line.specs.Fields.{Rest, is_number}
use Rattle.gate_line.specs.Posts.{kind_of, manage_has_texts, post_of}
use Rattle.gate_line.specs.Words.{is_blank, rest_of, word_of}
use Rattle.gate_status.specs.declared.command.Command.{Command}
use Rattle.gate_status.specs.declared.command.Command.TheVariants as command
use Rattle.gate_status.specs.declared.command.CommandFault.{CommandFault}
use Rattle.gate_status.specs.declared.command.CommandFault.TheVariants.{Empty, Unknown, Arguments, Number, Memory}

-- ---- commands

-- a command of one word
abbrev pub plain_of : List ℕ → Option Command
plain_of word =
    if bytes_eq word (codes "status") then Some command.Status
    else (if bytes_eq word (codes "stop") then Some command.Stop
    else (if bytes_eq word (codes "renew") then Some command.Renew
    else (if bytes_eq word (codes "quit") then Some command.Quit else None)))

-- the command's fault for a line's fault: a field that should be a number has a fault of its own
abbrev pub fault_of : LineFault → CommandFault
fault_of line.Unknown = Unknown
fault_of (line.Missing expected) = Arguments
fault_of (line.Empty expected) = Arguments
fault_of (line.Wrong expected left) = if is_number expected then Number else Arguments
fault_of line.Memory = Memory

abbrev pub posted : Result Post LineFault → Result Command CommandFault
posted (Ok (post.Manage tenant pipeline manage)) = Ok (command.Manage tenant pipeline manage)
posted (Ok (post.Result tenant pipeline ended)) = Ok (command.Result tenant pipeline ended)
posted (Err fault) = Err (fault_of fault)

-- the command of a line, by its first word and the fields after that
abbrev pub command_named : Option Command → Option PostKind → Rest → Result Command CommandFault
command_named (Some plain) kind None = Ok plain
command_named (Some plain) kind (Some more) = Err Arguments
command_named None (Some kind) rest = posted (post_of kind rest)
command_named None None rest = Err Unknown

-- The command of a line, or the line's fault, which is never `Memory`.
abbrev pub command_of : List ℕ → Result Command CommandFault
command_of line = if is_blank line then Err Empty else command_named (plain_of (word_of line)) (kind_of (word_of line)) (rest_of line)

-- ---- faults

-- a command has texts to copy where it brings a key of a ref, or a result
abbrev pub has_texts : Command → Bool
has_texts (command.Manage tenant pipeline manage) = manage_has_texts manage
has_texts (command.Result tenant pipeline ended) = true
has_texts other = false

-- memory may be refused only where texts are copied
abbrev pub MayBeRefused : Result Command CommandFault → Type 0
MayBeRefused (Ok command) = IsTrue (has_texts command)
MayBeRefused (Err fault) = ⊥

-- This fault may be answered to a line with this command or fault. Every fault but `Memory` is the line's own
abbrev pub IsFaultOf : Result Command CommandFault → CommandFault → Type 0
IsFaultOf asked Memory = MayBeRefused asked
IsFaultOf asked Empty = asked ≡ Err Empty
IsFaultOf asked Unknown = asked ≡ Err Unknown
IsFaultOf asked Arguments = asked ≡ Err Arguments
IsFaultOf asked Number = asked ≡ Err Number
