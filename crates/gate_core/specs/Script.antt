-- What the bytes of a script stand for.
use Rattle.std.specs.Prelude.{ℕ, ◌+◌, ◌^◌, List, [], ◌∷◌, ◌++◌, Bool, true, false, Option, Some, None, Result, Ok, Err, codes, if◌then◌else◌}
use Rattle.std.specs.Str.{bytes_eq}
use Rattle.std.specs.Str.Lines.{lines}
use Rattle.gate_record.specs.declared.ids.ConnId.{ConnId}
use Rattle.gate_record.specs.declared.ids.TenantId.{TenantId}
use Rattle.gate_record.specs.declared.record.Record.TheVariants.{Line, Oversize}
use Rattle.gate_line.specs.declared.field.Field.{Field}
use Rattle.gate_line.specs.declared.field.Field.TheVariants as field
use Rattle.gate_line.specs.declared.field.LineFault.{LineFault}
use Rattle.gate_line.specs.declared.field.LineFault.TheVariants.{Unknown}
use Rattle.gate_line.specs.declared.posts.Post.{Post}
use Rattle.gate_line.specs.declared.posts.Post.TheVariants as post
use Rattle.gate_line.specs.declared.posts.PostKind.{PostKind}
use Rattle.gate_line.specs.Fields.{◌>>=◌, Rest, at_end, last_bytes, number_field}
use Rattle.gate_line.specs.Posts.{kind_of, manage_has_texts, post_of}
use Rattle.gate_line.specs.Words.{is_skipped, rest_of, word_of}
use Rattle.gate_core.specs.declared.script.Scripted.{Scripted}
use Rattle.gate_core.specs.declared.script.Scripted.TheVariants as scripted
use Rattle.gate_core.specs.declared.step.Step.{Step}
use Rattle.gate_core.specs.declared.step.Step.TheVariants.{Offer, Close, Renew, Take, Send, Fetch, Match, Give, PostManage, PostResult, Turn}

-- ---- lines

-- one number, and two numbers, that end the line
abbrev pub one_of : Field → Rest → Result ℕ LineFault
one_of expected rest = do
  number ← number_field (2 ^ 32) expected rest
  done ← at_end number.1
  Ok number.0

abbrev pub two_of : Field → Field → Rest → Result (ℕ × ℕ) LineFault
two_of first second rest = do
  one ← number_field (2 ^ 32) first rest
  other ← one_of second one.1
  Ok (one.0, other)

-- the number of a connection, and the record that it is offered, which has at least one byte
abbrev pub offer_of : Rest → Result Step LineFault
offer_of rest = do
  conn ← number_field (2 ^ 32) field.Connection rest
  bytes ← last_bytes field.Record conn.1
  Ok (Offer (record { 0 = conn.0 }) (Line bytes))

abbrev pub to_connection : (ConnId → Step) → Rest → Result Step LineFault
to_connection step rest = do
  conn ← one_of field.Connection rest
  Ok (step (record { 0 = conn }))

abbrev pub to_tenant : (TenantId → Step) → Rest → Result Step LineFault
to_tenant step rest = do
  tenant ← one_of field.Tenant rest
  Ok (step (record { 0 = tenant }))

abbrev pub fetch_of : Rest → Result Step LineFault
fetch_of rest = do
  numbers ← two_of field.Tenant field.Count rest
  Ok (Fetch (record { 0 = numbers.0 }) numbers.1)

abbrev pub turn_of : Rest → Result Step LineFault
turn_of rest = do
  numbers ← two_of field.Tenant field.Pipeline rest
  Ok (Turn (record { 0 = numbers.0 }) (record { 0 = numbers.1 }))

-- the step that posts this to a pipeline
abbrev pub posted : Post → Step
posted (post.Manage tenant pipeline manage) = PostManage tenant pipeline manage
posted (post.Result tenant pipeline ended) = PostResult tenant pipeline ended

abbrev pub posted_of : Option PostKind → Rest → Result Step LineFault
posted_of None rest = Err Unknown
posted_of (Some kind) rest = do
  post ← post_of kind rest
  Ok (posted post)

-- the steps that bring something with them: a record, or what is posted to a pipeline
abbrev pub bringing_named : List ℕ → Rest → Result Step LineFault
bringing_named word rest = if bytes_eq word (codes "offer") then offer_of rest else posted_of (kind_of word) rest

-- the other steps of a connection, and after them those that bring something
abbrev pub connection_named : List ℕ → Rest → Result Step LineFault
connection_named word rest =
    if bytes_eq word (codes "send") then to_connection Send rest
    else (if bytes_eq word (codes "take") then to_connection Take rest
    else (if bytes_eq word (codes "close") then to_connection Close rest
    else (if bytes_eq word (codes "renew") then to_connection Renew rest
    else (if bytes_eq word (codes "oversize") then to_connection (λ c. Offer c Oversize) rest
    else bringing_named word rest))))

-- the step that a line's first word and its other fields stand for: those of a pipeline and of a tenant come first
abbrev pub step_named : List ℕ → Rest → Result Step LineFault
step_named word rest =
    if bytes_eq word (codes "turn") then turn_of rest
    else (if bytes_eq word (codes "give") then to_tenant Give rest
    else (if bytes_eq word (codes "fetch") then fetch_of rest
    else (if bytes_eq word (codes "match") then to_tenant Match rest
    else connection_named word rest)))

abbrev pub show_of : Rest → Result Scripted LineFault
show_of rest = do
  numbers ← two_of field.Tenant field.Pipeline rest
  Ok (scripted.Show numbers.0 numbers.1)

abbrev pub stepped_of : List ℕ → Rest → Result Scripted LineFault
stepped_of word rest = do
  step ← step_named word rest
  Ok (scripted.Step step)

-- What a line stands for, or its fault: either the items of a pipeline are to be shown, or a step is to be taken
abbrev pub scripted_of : List ℕ → Result Scripted LineFault
scripted_of line = if bytes_eq (word_of line) (codes "show") then show_of (rest_of line) else stepped_of (word_of line) (rest_of line)

-- a step has bytes to copy where it brings a record, a key of a ref, or a result
abbrev pub step_has_bytes : Step → Bool
step_has_bytes (Offer conn (Line bytes)) = true
step_has_bytes (PostManage tenant pipeline manage) = manage_has_texts manage
step_has_bytes (PostResult tenant pipeline ended) = true
step_has_bytes other = false

abbrev pub has_bytes : Scripted → Bool
has_bytes (scripted.Step step) = step_has_bytes step
has_bytes (scripted.Show tenant pipeline) = false

abbrev pub added : Result Scripted LineFault → Option (List Scripted)
added (Ok one) = Some (one ∷ [])
added (Err fault) = None

-- what a line adds: nothing where it is skipped, otherwise what it stands for
abbrev pub line_adds : List ℕ → Option (List Scripted)
line_adds line = if is_skipped line then Some [] else added (scripted_of line)

-- ---- scripts

-- lines, and more after them
abbrev pub followed_by : List Scripted → Result (List Scripted) ℕ → Result (List Scripted) ℕ
followed_by lines (Ok more) = Ok (lines ++ more)
followed_by lines (Err line) = Err line

-- a line that stands for nothing is the fault, where no line before it is
abbrev pub with_line : Option (List Scripted) → ℕ → Result (List Scripted) ℕ → Result (List Scripted) ℕ
with_line None number rest = Err number
with_line (Some lines) number rest = followed_by lines rest

-- what the lines stand for, numbered from `number`, or the number of the first that stands for nothing
abbrev pub lines_from : ℕ → List (List ℕ) → Result (List Scripted) ℕ
lines_from number [] = Ok []
lines_from number (line ∷ rest) = with_line (line_adds line) number (lines_from (number + 1) rest)

-- what a script stands for, where its lines are numbered from 1
abbrev pub script_of : List ℕ → Result (List Scripted) ℕ
script_of bytes = lines_from 1 (lines bytes)
