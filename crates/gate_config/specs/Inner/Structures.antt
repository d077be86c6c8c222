-- What a configuration must have in common with other generations.
use Rattle.std.specs.Prelude.{map}
use Rattle.gate_config.specs.declared.config.Config.{Config}
use Rattle.gate_config.specs.Lookups.{connections_of, tenants_of}
use Rattle.gate_config.specs.Structure.{Structure, tenant_structure}
use Rattle.gate_config.specs.Texts.{texts_of_tenant}

abbrev pub structure_in : Config → Structure
structure_in config = record { connections = connections_of config; tenants = map tenant_structure (map texts_of_tenant (tenants_of config)) }
