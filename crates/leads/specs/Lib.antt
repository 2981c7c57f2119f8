pub mod Leads
pub mod LeadLaws
