-- The two meanings agree.
pub mod AgreementLemmas
-- Runs show what nested statements mean.
pub mod RunLemmas
