use Rattle.std.proofs.Common.{◌≡◌, length, map, replicate, take}
use Rattle.gate_config.specs.declared.config.TenantSpec.{TenantSpec}
use Rattle.gate_status.specs.Boards.{no_progress}
use Rattle.gate_status.proofs.board.Board.new.Given as goal

-- the tenants so far have their entries
abbrev pub invariant-loop-tenant : goal.invariant-loop-tenant
invariant-loop-tenant l = l.tenants.items ≡ map (λ (tenant : TenantSpec). replicate (length tenant.pipelines) no_progress) (take l.tenant-index l.tenant-items)
