-- What a pattern is made of crosses to other threads. A tree of `Hir` reaches itself, and the check finds by itself that it
-- crosses: so the lemmas take that as a premise. What holds a tree is shown value by value.
use mathlib.Core.List.{List, [], ◌∷◌}
use Rattle.std.specs.Prelude.{take, drop}
use denote.RattleType.{RattleType}
use denote.Param.Send.{IsSend, IsSync, SendAt, SyncAt, AllSend, AllSync, FieldsAt, sendable, struct_send_at, struct_sync_at, recorded_send_at, recorded_send_of}
use denote.RattleType.{Denots}
use denote.Struct.Declared.{shape}
use Rattle.std.proofs.Crossing.{crosses}
use Rattle.regex_hir.specs.contracts.hir.Hir as hir
use Rattle.regex_nfa.specs.contracts.nfa.Nfa as nfa
use Rattle.regex_dfa.specs.contracts.dfa.Dfa as dfa
use Rattle.regex_meta.specs.contracts.plan.Plan as plan
use Rattle.regex_meta.specs.contracts.plan.Plans as plans
use Rattle.regex_meta.specs.contracts.signs.Signs as signs
use Rattle.regex_meta.specs.contracts.program.Program as program
use Rattle.regex.specs.contracts.pattern.Pattern as pattern
use Rattle.regex.specs.contracts.string.regex.Regex as regex
use Rattle.gate_rule.specs.contracts.pattern.Pattern as rule_pattern
use Rattle.gate_rule.specs.contracts.entry.Entry as entry
use Rattle.gate_config.specs.contracts.config.Config as config
use Rattle.gate_config.specs.contracts.generations.Generations as generations

nfa_sync : IsSync (nfa.the_field).row
nfa_sync = search (sendable, crosses) depth 40 fits 20000

dfa_sync : IsSync (dfa.the_field).row
dfa_sync = let a = nfa_sync in search (sendable, crosses) depth 40 fits 20000

plan_sync : IsSync hir.the_row → IsSync (plan.the_field).row
plan_sync h = let d = dfa_sync in search (sendable, crosses) depth 40 fits 20000

plans_sync : IsSync hir.the_row → IsSync (plans.the_field).row
plans_sync h = let d = plan_sync h in search (sendable, crosses) depth 40 fits 20000

signs_sync : IsSync hir.the_row → IsSync (signs.the_field).row
signs_sync h = search (sendable, crosses) depth 40 fits 20000

all_at : (Ts : List RattleType) → AllSync Ts → (a : Denots Ts) → FieldsAt SyncAt Ts a
all_at [] s a = tt
all_at (R ∷ Ts) s a = (s.0.shared a.0, all_at Ts s.1 a.1)

behind : IsSync hir.the_row → AllSync (drop 3 (shape program.the_type).fields)
behind h = ((let s = signs_sync h in search (sendable, crosses) depth 40 fits 20000), ((search (sendable, crosses) depth 40 fits 20000), ((search (sendable, crosses) depth 40 fits 20000), ((search (sendable, crosses) depth 40 fits 20000), ((search (sendable, crosses) depth 40 fits 20000), tt)))))

program_at : IsSync hir.the_row → (d : (program.the_type).D) → SyncAt (program.the_field).row ((program.the_type).to d)
program_at h d = let a = (program.the_type).to d in
    struct_sync_at (shape program.the_type) a (h.shared d.hir, (dfa_sync.shared a.1.0, ((plans_sync h).shared a.1.1.0, all_at (drop 3 (shape program.the_type).fields) (behind h) a.1.1.1)))

front : AllSync (take 3 (shape pattern.the_type).fields)
front = ((search (sendable, crosses) depth 40 fits 20000), ((search (sendable, crosses) depth 40 fits 20000), ((search (sendable, crosses) depth 40 fits 20000), tt)))

pattern_at : IsSync hir.the_row → (d : (pattern.the_type).D) → SyncAt (pattern.the_field).row ((pattern.the_type).to d)
pattern_at h d = let a = (pattern.the_type).to d in
    struct_sync_at (shape pattern.the_type) a (front.0.shared a.0, (front.1.0.shared a.1.0, (front.1.1.0.shared a.1.1.0, (program_at h d.program, tt))))

pub regex_sync : IsSync hir.the_row → IsSync regex.the_row
regex_sync h = record { shared = λ d. struct_sync_at (shape regex.the_type) ((regex.the_type).to d) (pattern_at h d.pattern, tt) }

nfa_send : IsSend (nfa.the_field).row
nfa_send = search (sendable, crosses) depth 40 fits 20000

dfa_send : IsSend (dfa.the_field).row
dfa_send = let a = nfa_send in search (sendable, crosses) depth 40 fits 20000

plan_send : IsSend hir.the_row → IsSend (plan.the_field).row
plan_send h = let d = dfa_send in search (sendable, crosses) depth 40 fits 20000

plans_send : IsSend hir.the_row → IsSend (plans.the_field).row
plans_send h = let d = plan_send h in search (sendable, crosses) depth 40 fits 20000

signs_send : IsSend hir.the_row → IsSend (signs.the_field).row
signs_send h = search (sendable, crosses) depth 40 fits 20000

send_at : (R : RattleType) → IsSend R → (x : R.Denot) → SendAt R x
send_at R s x = (s.owned x, λ k. s.leaving k x)

all_sent_at : (Ts : List RattleType) → AllSend Ts → (a : Denots Ts) → FieldsAt SendAt Ts a
all_sent_at [] s a = tt
all_sent_at (R ∷ Ts) s a = (send_at R s.0 a.0, all_sent_at Ts s.1 a.1)

behind_sent : IsSend hir.the_row → AllSend (drop 3 (shape program.the_type).fields)
behind_sent h = ((let s = signs_send h in search (sendable, crosses) depth 40 fits 20000), ((search (sendable, crosses) depth 40 fits 20000), ((search (sendable, crosses) depth 40 fits 20000), ((search (sendable, crosses) depth 40 fits 20000), ((search (sendable, crosses) depth 40 fits 20000), tt)))))

program_sent_at : IsSend hir.the_row → (d : (program.the_type).D) → SendAt (program.the_field).row ((program.the_type).to d)
program_sent_at h d = let a = (program.the_type).to d in
    struct_send_at (shape program.the_type) a (recorded_send_at (hir.the_field).row (hir.the_type).D (hir.the_type).to (hir.the_type).to_one h d.hir, (send_at _ dfa_send a.1.0, (send_at _ (plans_send h) a.1.1.0, all_sent_at (drop 3 (shape program.the_type).fields) (behind_sent h) a.1.1.1)))

front_sent : AllSend (take 3 (shape pattern.the_type).fields)
front_sent = ((search (sendable, crosses) depth 40 fits 20000), ((search (sendable, crosses) depth 40 fits 20000), ((search (sendable, crosses) depth 40 fits 20000), tt)))

pattern_sent_at : IsSend hir.the_row → (d : (pattern.the_type).D) → SendAt (pattern.the_field).row ((pattern.the_type).to d)
pattern_sent_at h d = let a = (pattern.the_type).to d in
    struct_send_at (shape pattern.the_type) a (send_at _ front_sent.0 a.0, (send_at _ front_sent.1.0 a.1.0, (send_at _ front_sent.1.1.0 a.1.1.0, (program_sent_at h d.program, tt))))

pub regex_send : IsSend hir.the_row → IsSend regex.the_row
regex_send h = recorded_send_of (regex.the_field).row (regex.the_type).D (regex.the_type).to (regex.the_type).to_one (λ d. struct_send_at (shape regex.the_type) ((regex.the_type).to d) (pattern_sent_at h d.pattern, tt))

-- ---- an entry, which has a pattern beside a plain value

entry_rest_sync : AllSync (drop 1 (shape entry.the_type).fields)
entry_rest_sync = ((search (sendable, crosses) depth 40 fits 20000), tt)

pub entry_sync : IsSync rule_pattern.the_row → IsSync entry.the_row
entry_sync h = record { shared = λ d. struct_sync_at (shape entry.the_type) ((entry.the_type).to d) (h.shared d.pattern, all_at (drop 1 (shape entry.the_type).fields) entry_rest_sync ((entry.the_type).to d).1) }

entry_rest_send : AllSend (drop 1 (shape entry.the_type).fields)
entry_rest_send = ((search (sendable, crosses) depth 40 fits 20000), tt)

pub entry_send : IsSend rule_pattern.the_row → IsSend entry.the_row
entry_send h = recorded_send_of (entry.the_field).row (entry.the_type).D (entry.the_type).to (entry.the_type).to_one
    (λ d. struct_send_at (shape entry.the_type) ((entry.the_type).to d) (
      recorded_send_at (rule_pattern.the_field).row (rule_pattern.the_type).D (rule_pattern.the_type).to (rule_pattern.the_type).to_one h d.pattern,
      all_sent_at (drop 1 (shape entry.the_type).fields) entry_rest_send ((entry.the_type).to d).1,
    ))

-- ---- generations, which have a configuration beside a list of more

later_sync : IsSync config.the_row → AllSync (drop 1 (shape generations.the_type).fields)
later_sync h = ((search (sendable, crosses) depth 40 fits 20000), tt)

pub generations_sync : IsSync config.the_row → IsSync generations.the_row
generations_sync h = record { shared = λ d. struct_sync_at (shape generations.the_type) ((generations.the_type).to d) (h.shared d.first, all_at (drop 1 (shape generations.the_type).fields) (later_sync h) ((generations.the_type).to d).1) }

later_send : IsSend config.the_row → AllSend (drop 1 (shape generations.the_type).fields)
later_send h = ((search (sendable, crosses) depth 40 fits 20000), tt)

pub generations_send : IsSend config.the_row → IsSend generations.the_row
generations_send h = recorded_send_of (generations.the_field).row (generations.the_type).D (generations.the_type).to (generations.the_type).to_one
    (λ d. struct_send_at (shape generations.the_type) ((generations.the_type).to d) (
      recorded_send_at (config.the_field).row (config.the_type).D (config.the_type).to (config.the_type).to_one h d.first,
      all_sent_at (drop 1 (shape generations.the_type).fields) (later_send h) ((generations.the_type).to d).1,
    ))
