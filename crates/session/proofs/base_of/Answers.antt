-- `session::base_of` meets its contract: field by field, by the variant that each arm is told.
use mathlib.Core.Path.{ap, sym}
use Rattle.session.specs.Table.{base}
use Rattle.session.proofs.base_of.Goals as goal

pub returns-in-Objects : goal.returns-in-Objects
returns-in-Objects c = ap base (sym c.in-Objects.is)

pub returns-in-Links : goal.returns-in-Links
returns-in-Links c = ap base (sym c.in-Links.is)

pub returns-in-Dropped : goal.returns-in-Dropped
returns-in-Dropped c = ap base (sym c.in-Dropped.is)

pub returns-in-Kind : goal.returns-in-Kind
returns-in-Kind c = ap base (sym c.in-Kind.is)

pub returns-in-TemplateState : goal.returns-in-TemplateState
returns-in-TemplateState c = ap base (sym c.in-TemplateState.is)

pub returns-in-TemplateCount : goal.returns-in-TemplateCount
returns-in-TemplateCount c = ap base (sym c.in-TemplateCount.is)

pub returns-in-TaskState : goal.returns-in-TaskState
returns-in-TaskState c = ap base (sym c.in-TaskState.is)

pub returns-in-TaskCreator : goal.returns-in-TaskCreator
returns-in-TaskCreator c = ap base (sym c.in-TaskCreator.is)

pub returns-in-TaskSlots : goal.returns-in-TaskSlots
returns-in-TaskSlots c = ap base (sym c.in-TaskSlots.is)

pub returns-in-TaskFinish : goal.returns-in-TaskFinish
returns-in-TaskFinish c = ap base (sym c.in-TaskFinish.is)

pub returns-in-TaskOutput : goal.returns-in-TaskOutput
returns-in-TaskOutput c = ap base (sym c.in-TaskOutput.is)

pub returns-in-EventState : goal.returns-in-EventState
returns-in-EventState c = ap base (sym c.in-EventState.is)

pub returns-in-EventType : goal.returns-in-EventType
returns-in-EventType c = ap base (sym c.in-EventType.is)

pub returns-in-EventPayload : goal.returns-in-EventPayload
returns-in-EventPayload c = ap base (sym c.in-EventPayload.is)

pub returns-in-EventTally : goal.returns-in-EventTally
returns-in-EventTally c = ap base (sym c.in-EventTally.is)

pub returns-in-BlockState : goal.returns-in-BlockState
returns-in-BlockState c = ap base (sym c.in-BlockState.is)

pub returns-in-BlockCreator : goal.returns-in-BlockCreator
returns-in-BlockCreator c = ap base (sym c.in-BlockCreator.is)

pub returns-in-BlockHeld : goal.returns-in-BlockHeld
returns-in-BlockHeld c = ap base (sym c.in-BlockHeld.is)

pub returns-in-SlotMode : goal.returns-in-SlotMode
returns-in-SlotMode c = ap base (sym c.in-SlotMode.is)

pub returns-in-SlotMark : goal.returns-in-SlotMark
returns-in-SlotMark c = ap base (sym c.in-SlotMark.is)

pub returns-in-SlotPayload : goal.returns-in-SlotPayload
returns-in-SlotPayload c = ap base (sym c.in-SlotPayload.is)

pub returns-in-LinkSource : goal.returns-in-LinkSource
returns-in-LinkSource c = ap base (sym c.in-LinkSource.is)

pub returns-in-LinkTarget : goal.returns-in-LinkTarget
returns-in-LinkTarget c = ap base (sym c.in-LinkTarget.is)

pub returns-in-LinkSlot : goal.returns-in-LinkSlot
returns-in-LinkSlot c = ap base (sym c.in-LinkSlot.is)

pub returns-in-LinkState : goal.returns-in-LinkState
returns-in-LinkState c = ap base (sym c.in-LinkState.is)

pub returns-in-EventCount : goal.returns-in-EventCount
returns-in-EventCount c = ap base (sym c.in-EventCount.is)
