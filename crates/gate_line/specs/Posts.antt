-- What a line posts to a pipeline.
use Rattle.std.specs.Prelude.{ℕ, ℤ, ◌^◌, List, Bool, true, false, Option, Some, None, Result, Ok, Err, option_and_then, codes, if◌then◌else◌}
use Rattle.std.specs.Str.{bytes_eq}
use Rattle.gate_record.specs.declared.ids.PipelineId.{PipelineId}
use Rattle.gate_record.specs.declared.ids.TenantId.{TenantId}
use Rattle.gate_record.specs.Numbers.{number_in}
use Rattle.gate_items.specs.declared.action.JobResult.{JobResult}
use Rattle.gate_items.specs.declared.action.Manage.{Manage}
use Rattle.gate_items.specs.declared.action.Manage.TheVariants as manage
use Rattle.gate_items.specs.declared.key.Key.{Key}
use Rattle.gate_items.specs.declared.key.Key.TheVariants as key
use Rattle.gate_line.specs.declared.field.Field.TheVariants as field
use Rattle.gate_line.specs.declared.field.LineFault.{LineFault}
use Rattle.gate_line.specs.declared.posts.Post.{Post}
use Rattle.gate_line.specs.declared.posts.Post.TheVariants as post
use Rattle.gate_line.specs.declared.posts.PostKind.{PostKind}
use Rattle.gate_line.specs.declared.posts.PostKind.TheVariants as kind
use Rattle.gate_line.specs.Words.{text_of}
use Rattle.gate_line.specs.Fields.{◌>>=◌, Rest, wrong, or_wrong, word_field, number_field, text_field, last_text, at_end}

-- ---- keys

-- the number of a change, with at most one sign, and the rest after it
abbrev pub change_field : Rest → Result (ℤ × Rest) LineFault
change_field rest = do
  word ← word_field field.Change rest
  number ← or_wrong (option_and_then number_in (text_of word.0)) field.Change rest
  Ok (number, word.1)

-- `C N`: the number of a connection and the number of a change in it
abbrev pub change_of : Rest → Result Key LineFault
change_of rest = do
  conn ← number_field (2 ^ 32) field.Connection rest
  number ← change_field conn.1
  done ← at_end number.1
  Ok (key.Change (record { 0 = conn.0 }) number.0)

-- `C NEWREV REFNAME PROJECT`: the number of a connection, and three texts, of which the project's name is the whole rest
abbrev pub ref_of : Rest → Result Key LineFault
ref_of rest = do
  conn ← number_field (2 ^ 32) field.Connection rest
  newrev ← text_field field.Revision conn.1
  refname ← text_field field.Ref newrev.1
  project ← last_text field.Project refname.1
  Ok (key.Ref (record { 0 = conn.0 }) project refname.0 newrev.0)

-- `change C N` or `ref C NEWREV REFNAME PROJECT`
abbrev pub key_of : Rest → Result Key LineFault
key_of rest = do
  word ← word_field field.Key rest
  if bytes_eq word.0 (codes "change") then change_of word.1 else (if bytes_eq word.0 (codes "ref") then ref_of word.1 else Err (wrong field.Key rest))

-- ---- posts

-- what a word says of a job: whether it has succeeded
abbrev pub success_of : List ℕ → Option Bool
success_of word = if bytes_eq word (codes "success") then Some true else (if bytes_eq word (codes "failure") then Some false else None)

-- `SET success JOB` or `SET failure JOB`: the number of a build set, and how a job of it has ended
abbrev pub ended_of : Rest → Result JobResult LineFault
ended_of rest = do
  set ← number_field (2 ^ 64) field.BuildSet rest
  word ← word_field field.Ending set.1
  success ← or_wrong (success_of word.0) field.Ending set.1
  job ← last_text field.Job word.1
  Ok (record { set = set.0; job = job; success = success })

-- what a line of this kind posts to this pipeline
abbrev pub posted_to : PostKind → TenantId → PipelineId → Rest → Result Post LineFault
posted_to kind.Dequeue tenant pipeline rest = do
  key ← key_of rest
  Ok (post.Manage tenant pipeline (manage.Dequeue key))
posted_to kind.Reset tenant pipeline rest = do
  key ← key_of rest
  Ok (post.Manage tenant pipeline (manage.Reset key))
posted_to kind.Result tenant pipeline rest = do
  ended ← ended_of rest
  Ok (post.Result tenant pipeline ended)

-- what a line of this kind posts: after `T P`, the numbers of a tenant and of its pipeline, comes a key, or a build set and how a
-- job of it has ended
abbrev pub post_of : PostKind → Rest → Result Post LineFault
post_of kind rest = do
  tenant ← number_field (2 ^ 32) field.Tenant rest
  pipeline ← number_field (2 ^ 32) field.Pipeline tenant.1
  posted_to kind (record { 0 = tenant.0 }) (record { 0 = pipeline.0 }) pipeline.1

-- the kind of a line that posts, by its first word
abbrev pub kind_of : List ℕ → Option PostKind
kind_of word =
    if bytes_eq word (codes "dequeue") then Some kind.Dequeue
    else (if bytes_eq word (codes "reset") then Some kind.Reset
    else (if bytes_eq word (codes "result") then Some kind.Result else None))

-- The post has texts that are copied: those of a ref's key, or the job's name of a result.
abbrev pub key_has_texts : Key → Bool
key_has_texts (key.Change conn number) = false
key_has_texts (key.Ref conn project refname newrev) = true

abbrev pub manage_has_texts : Manage → Bool
manage_has_texts (manage.Dequeue key) = key_has_texts key
manage_has_texts (manage.Reset key) = key_has_texts key

abbrev pub post_has_texts : Post → Bool
post_has_texts (post.Manage tenant pipeline manage) = manage_has_texts manage
post_has_texts (post.Result tenant pipeline ended) = true
