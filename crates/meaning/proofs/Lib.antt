-- Why the definitions of specs/ keep what is said of them.
--
-- The statement on two runs is proved in three layers. First by named registers and structured code: what one run keeps, what ties two runs, and
-- that rewritten code keeps the tie (NamedCode to TwoRuns, Releases, Bought). Then the named rows are shown to be the rows of the rules, and a bank's
-- numbered registers to keep step with the named ones (Numbers to BridgePlaces). Last, runs and lists of calls (Together to Confinement).

-- registers of a bank
pub mod BankLaws
-- the machine and the rules by named registers
pub mod NamedCode
pub mod NamedRules
pub mod Programs
pub mod Registers
pub mod Placed
pub mod Laying
pub mod Interpretations
-- two runs of named code, and one run in a private branch
pub mod Relations
pub mod Levels
pub mod Steps
pub mod Frames
pub mod Private
pub mod Pairs
pub mod Public
pub mod TwoRuns
-- releases made, and the script as bought
pub mod Releases
pub mod Bought
-- numbers for names
pub mod Numbers
pub mod Valid
pub mod Transfer
pub mod Bridge
pub mod BridgePlaces
pub mod Setup
-- runs and their calls
pub mod Together
pub mod Alone
pub mod Calls
pub mod Endings
pub mod Confinement
-- laws of every run and of levels
pub mod RunLaws
pub mod FlowLaws
-- a rewritten script is a script, and its tolls are steps
pub mod GeneratedNames
pub mod RewrittenStatements
pub mod Openings
pub mod PlaceCounts
pub mod WellFormedness
pub mod Tolls
-- runs by structure
pub mod Structured
