-- The rules of a kept session by name, the fields that each reads, and what each effect writes
pub mod Places
pub mod Puts
pub mod SlotPlaces
pub mod Tables
pub mod Outside
pub mod Writes
pub mod Shape
pub mod Frame
pub mod Parts
pub mod Rows
pub mod Keeping
pub mod ByName
pub mod Conjuncts
-- What such a session says of an object, a slot, a hold or a descendant
pub mod Counting
pub mod Standing
pub mod SlotModes
pub mod Holding
pub mod Under
pub mod Unkept
pub mod SoundTidy
-- A call: its checks by number, and the two ways that it ends
pub mod Met
pub mod Accepted
-- Kept: the making of objects
pub mod Grown
pub mod Born
pub mod Making
pub mod MakingOutputs
pub mod FreshKept
pub mod Template
pub mod Event
pub mod Block
pub mod Task
-- Kept: satisfactions, links and deliveries
pub mod Renewing
pub mod Firing
pub mod SatisfyEvent
pub mod Satisfy
pub mod Apart
pub mod Claim
pub mod Climbing
pub mod DestroyedClimbs
pub mod FillSlot
pub mod NewLink
pub mod Dependence
pub mod MarkLink
pub mod Expire
pub mod Deliver
-- Kept: holds, and tasks that move on, end or are destroyed
pub mod Marks
pub mod Moving
pub mod LettingGo
pub mod Release
pub mod Grant
pub mod Start
pub mod Retiring
pub mod RetiredOutputs
pub mod Finishing
pub mod End
pub mod DestroyEvent
pub mod DestroyTask
pub mod DestroyBlock
pub mod Destroy
-- What no operation takes back
pub mod Lasting
pub mod LastingEffects
pub mod LastingOperations
-- The book: how it and the session agree, operation by operation
pub mod BookEntries
pub mod Relation
pub mod Column
pub mod RelatedFresh
pub mod RelatedMake
pub mod RelatedState
pub mod RelatedFire
pub mod RelatedSlot
pub mod RelatedLink
pub mod RelatedDeliver
pub mod RelatedDestroyEvent
pub mod RelatedDestroy
pub mod RelatedEnd
-- The falling count
pub mod Left
pub mod Falling
-- Every operation: a record of what is proved of it, and what follows of every call and every list
pub mod Operations
pub mod OwnFields
pub mod StepKeeps
pub mod OneCall
pub mod Runs
pub mod RelatedStep
pub mod RelatedRuns
-- The five clauses of demand 3, and the theorem
pub mod StartsOnce
pub mod Living
pub mod FinishFires
pub mod Prefixes
pub mod FiresFirst
pub mod Bounded
pub mod Stuck
pub mod Demand
