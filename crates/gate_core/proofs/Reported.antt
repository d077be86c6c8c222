-- The report of a state says what the history says.
use Rattle.std.proofs.Common.{◌≡◌, ◌∙◌, refl, sym, ap, ℕ, suc, ◌+◌, List, [], ◌∷◌, length, map, Option, Some, None, arith, add-zero}
use Rattle.std.specs.Prelude.{slice_get}
use Rattle.std.specs.List.{enumerate_from}
use Rattle.gate_record.specs.declared.ids.PipelineId.{PipelineId}
use Rattle.gate_record.specs.declared.transit.PipelineItem.{PipelineItem}
use Rattle.gate_config.specs.declared.generations.Generations.{Generations}
use Rattle.gate_config.specs.Lookups.{connections_of, pipelines_of, tenants_of}
use Rattle.gate_core.specs.declared.pipeline.Pipeline.{Pipeline}
use Rattle.gate_core.specs.History.{History}
use Rattle.gate_core.specs.Reports.{cause_of, connection_after, connection_report, pipeline_after, pipeline_report, pipelines_after, report_after, report_of, tenant_report}
use Rattle.gate_core.specs.States.{ConnectionState, TenantState, State}
use Rattle.gate_core.proofs.Streams.{ConnHolds, Holds, PipeHolds, TenantHolds}

-- two lists of one length, of which one is read by place
by_place : {A B Z : Type 0} (f : A → Z) (g : ℕ → Z) (xs : List A) (ys : List B) (n : ℕ) → length xs ≡ length ys → ((i : ℕ) (x : A) → slice_get xs i ≡ Some x → f x ≡ g (n + i)) →
    map f xs ≡ map (λ (entry : ℕ × B). g entry.0) (enumerate_from n ys)
by_place f g [] [] n e same = refl
by_place f g [] (y ∷ ys) n e same = absurd (omega (arith, e))
by_place f g (x ∷ xs) [] n e same = absurd (omega (arith, e))
by_place f g (x ∷ xs) (y ∷ ys) n e same = λ i. (same 0 x refl ∙ ap g (add-zero n)) i ∷ by_place f g xs ys (n + 1) (omega (arith, e)) (λ j z at. same (suc j) z at ∙ ap g (omega arith)) i

of_connection : (gens : Generations) (h : History) (c : ℕ) (o : Option ConnectionState) (conn : ConnectionState) → o ≡ Some conn → ConnHolds gens h c o → connection_report conn ≡ connection_after h c
of_connection gens h c (Some k) conn e holds = ap connection_report (sym (ap (λ (o : Option ConnectionState). conn_or o conn) e)) ∙ (λ i. record { accepted = holds.count i; renewals = holds.renewed i; cause = cause_of (holds.closing i) })
  where
    conn_or : Option ConnectionState → ConnectionState → ConnectionState
    conn_or (Some x) d = x
    conn_or None d = d
of_connection gens h c None conn e holds = absurd (cc)

of_pipeline : (gens : Generations) (h : History) (t p : ℕ) (given : List (PipelineId × PipelineItem)) (pipe : Pipeline) → PipeHolds gens.first h t p given pipe → pipeline_report pipe ≡ pipeline_after h t p
of_pipeline gens h t p given pipe holds = λ i. record { done = holds.does i; finished = holds.finishes i }

of_tenant : (gens : Generations) (h : History) (conns : List ConnectionState) (t : ℕ) (ten : TenantState) → TenantHolds gens h conns t ten → tenant_report ten ≡ pipelines_after gens.first h t
of_tenant gens h conns t ten holds =
    by_place pipeline_report (pipeline_after h t) ten.pipelines (pipelines_of gens.first t) 0 holds.count
    (λ p pipe at. of_pipeline gens h t p holds.past.given pipe (holds.pipes p pipe at) ∙ ap (pipeline_after h t) (omega arith))

pub reported : (gens : Generations) (h : History) (state : State) → Holds gens h state → report_of state ≡ report_after gens.first h
reported gens h state holds = λ i. record {
  connections = by_place connection_report (connection_after h) state.connections (connections_of gens.first) 0 holds.conn_count
      (λ c conn at. of_connection gens h c (slice_get state.connections c) conn at (holds.conns c) ∙ ap (connection_after h) (omega arith)) i;
  pipelines = by_place tenant_report (pipelines_after gens.first h) state.tenants (tenants_of gens.first) 0 holds.count
      (λ t ten at. of_tenant gens h state.connections t ten (holds.tenants t ten at) ∙ ap (pipelines_after gens.first h) (omega arith)) i;
}
