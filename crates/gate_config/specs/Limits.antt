-- The numbers that limit a configuration.
use Rattle.std.specs.Prelude.{ℕ}

-- how many generations a configuration has at most
abbrev pub most_generations : ℕ
most_generations = 16

-- how many tenants a configuration has at most
abbrev pub most_tenants : ℕ
most_tenants = 16

-- how many connections a configuration has at most
abbrev pub most_connections : ℕ
most_connections = 64

-- how many pipelines a tenant has at most
abbrev pub most_pipelines : ℕ
most_pipelines = 64

-- how many rules a pipeline has at most for one connection
abbrev pub most_rules : ℕ
most_rules = 64

-- how many entries an attribute that lists patterns has at most, and how many votes `approval` asks for at most
abbrev pub most_entries : ℕ
most_entries = 32
