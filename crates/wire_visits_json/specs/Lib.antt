pub mod BounceJson
pub mod JourneyBackJson
pub mod JourneyJson
pub mod SurveyJson
pub mod SurveyLastJson
pub mod VisitEndedJson
pub mod VisitJson
pub mod WayJson
