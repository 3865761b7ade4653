pub mod TextStates
pub mod ReturnAddresses
pub mod KeptSteps
pub mod RunTransitions
pub mod KeptRuns
pub mod Laws
pub mod Met
