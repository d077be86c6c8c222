-- That a journal may be given to threads with its generations, since these may.
use denote.Param.Send.{AllSend, IsSend, IsSync, recorded_send, sendable, struct_send}
use denote.Struct.Declared.{shape}
use Rattle.std.proofs.Crossing.{crosses}
use Rattle.std.specs.contracts.fs.File as file
use Rattle.gate_record.proofs.shared.Shared.TheSendSync as shared
use Rattle.gate_journal.proofs.pipeline_journal.PipelineJournal.TheSendSync as told
use Rattle.gate_run_posts.proofs.stopper.Stopper.TheSendSync as stopper
use Rattle.gate_config.specs.contracts.generations.Generations as generations
use Rattle.gate_main_command.specs.contracts.journal.Journal as journal
use Rattle.gate_main_command.specs.contracts.journal_gate.Journaling as journaling

journal_parts : AllSend (shape (journal.the_type file.the_row)).fields
journal_parts = (search (sendable, crosses) depth 40 fits 20000, (search (sendable, crosses) depth 40 fits 20000, (search (sendable, crosses, told.the_send) depth 40 fits 20000, (search (sendable, crosses) depth 40 fits 20000, (search (sendable, crosses) depth 40 fits 20000, tt)))))

module _ (generations_send : IsSend generations.the_row) (generations_sync : IsSync generations.the_row) where
  journaling_parts : AllSend (shape journaling.the_type).fields
  journaling_parts = (search (sendable, crosses, shared.the_send) depth 40 fits 20000, (struct_send (shape (journal.the_type file.the_row)) journal_parts, (search (sendable, crosses, stopper.the_send) depth 40 fits 20000, (search (sendable, crosses) depth 40 fits 20000, tt))))

  pub journaling_send : IsSend journaling.the_row
  journaling_send = recorded_send journaling.the_field.row journaling.the_type.D journaling.the_type.to journaling.the_type.to_one (struct_send (shape journaling.the_type) journaling_parts)
