-- The laws of lower crates on which a connection's part rests.
use Rattle.gate_record.specs.Generations.{EntriesHaveGenerations, RecordsHaveGenerations}
use Rattle.gate_forward.specs.Histories.{EachTenantGetsItsOwn}

pub record Laws : Type 0 where
  pub gets : EachTenantGetsItsOwn
  pub entries : EntriesHaveGenerations
  pub records : RecordsHaveGenerations
